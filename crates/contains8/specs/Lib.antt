pub mod OneAnswer
pub mod MustNotFit
