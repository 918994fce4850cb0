pub mod Digits
pub mod Sets
pub mod Operations
pub mod Sum
