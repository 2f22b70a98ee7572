pub mod Reordered
pub mod ReorderedLaws
pub mod Swapped
