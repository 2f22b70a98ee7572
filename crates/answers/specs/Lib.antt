pub mod Answers
pub mod Checks
pub mod Passed
pub mod OneNumber
pub mod OneAnswer
pub mod Paper
pub mod OneReading
pub mod Never
