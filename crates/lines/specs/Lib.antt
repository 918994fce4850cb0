pub mod Lines
pub mod Reader
pub mod Search
