pub mod Endings
pub mod PutBack
