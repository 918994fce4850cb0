pub mod Calls
pub mod Answers
pub mod Cases
