pub mod Paper
pub mod Plans
pub mod Parts
pub mod Written
pub mod CarriedOut
pub mod OneAnswer
pub mod SmallLists
pub mod MustNotFit
