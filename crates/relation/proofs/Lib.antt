pub mod Opened
pub mod Tested
pub mod Effects
pub mod Bare
pub mod Accepted
pub mod One
