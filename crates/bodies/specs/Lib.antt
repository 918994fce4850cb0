pub mod Body
pub mod Stands
pub mod Walk
pub mod Reads
pub mod Adds
pub mod Sound
