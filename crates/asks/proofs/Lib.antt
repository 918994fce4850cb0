pub mod Bounds
pub mod Keys
pub mod Ahead
pub mod Stretch
