pub mod Limits
pub mod Answer
pub mod Effect
pub mod First
pub mod Board
pub mod Check
