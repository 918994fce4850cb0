pub mod File
pub mod Reading
pub mod Answers
pub mod Calls
pub mod Writing
