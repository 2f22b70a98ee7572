pub mod Repeats
pub mod Laws
