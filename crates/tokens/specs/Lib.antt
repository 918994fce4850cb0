pub mod Sorts
pub mod Tokens
pub mod Here
pub mod Cases
