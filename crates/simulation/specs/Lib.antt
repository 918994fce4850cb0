pub mod Moves
pub mod Position
pub mod Rules
pub mod Won
pub mod Answers
pub mod Quotient
pub mod Meaning
pub mod Cases
