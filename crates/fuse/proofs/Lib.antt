pub mod Checked
pub mod LeftAsSaid
pub mod Demanded
pub mod ByTwentyBytes
pub mod Widths
pub mod Trying
pub mod Searching
