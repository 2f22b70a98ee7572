pub mod KeyTold
pub mod BuildTold
pub mod Telling
pub mod OneAnswer
pub mod Reliable
pub mod DueFlush
pub mod HeaderRoom
