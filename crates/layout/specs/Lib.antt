pub mod Layout
pub mod Exponent
pub mod Ranges
pub mod Rows
pub mod Lengths
