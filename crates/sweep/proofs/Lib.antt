pub mod Between
pub mod Cleared
pub mod Room
pub mod Wiping
