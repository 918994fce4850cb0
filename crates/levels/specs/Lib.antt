pub mod Lows
pub mod Levels
pub mod Candidates
