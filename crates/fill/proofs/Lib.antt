pub mod OneKey
pub mod Filling
