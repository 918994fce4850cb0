pub mod Fresh
pub mod Rows
pub mod Growing
pub mod Ends
