pub mod Stored
pub mod Seeking
pub mod Sharing
pub mod Peeling
pub mod Reaching
