pub mod Lent
pub mod Onward
