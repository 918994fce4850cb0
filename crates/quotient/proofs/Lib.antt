pub mod Admission
pub mod Outputs
pub mod Accepted
pub mod Meaning
pub mod One
