pub mod Index
pub mod Steps
pub mod Asked
pub mod Pair
