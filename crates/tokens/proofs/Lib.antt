pub mod Sorts
pub mod Front
pub mod Gaps
pub mod Ends
pub mod Bounds
pub mod Ways
pub mod Reach
pub mod Cases
