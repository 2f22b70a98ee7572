pub mod OneAnswer
pub mod MustNotFit
pub mod BesideEight
