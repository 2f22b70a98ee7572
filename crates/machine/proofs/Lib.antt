pub mod ByHand
pub mod Work
pub mod Take
pub mod Standing
pub mod CompleteRun
pub mod Picks
pub mod Loop
