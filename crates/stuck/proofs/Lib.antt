pub mod PlainComplete
pub mod RemovesAll
pub mod HowMany
pub mod FirstOrAll
pub mod EqualSlots
pub mod FillAnswers
pub mod Cases
