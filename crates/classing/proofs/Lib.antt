pub mod Lists
pub mod Bytes
pub mod Bare
