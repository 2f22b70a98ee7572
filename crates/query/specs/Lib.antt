pub mod FirstFault
pub mod Suited
pub mod Answered
pub mod ToldBack
pub mod ByBytes
pub mod OneAnswer
pub mod MustNotFit
