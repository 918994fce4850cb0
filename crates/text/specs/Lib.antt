pub mod Lines
pub mod Order
pub mod Text
pub mod Answers
pub mod Calls
pub mod Survey
pub mod Fill
pub mod Cases
