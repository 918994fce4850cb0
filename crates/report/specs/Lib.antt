pub mod Report
pub mod Calls
