pub mod Reading
pub mod Told
pub mod Accepted
pub mod One
