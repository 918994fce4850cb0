pub mod Written
pub mod Gathered
pub mod Edges
pub mod Formed
pub mod One
pub mod Exact
pub mod Accepted
pub mod Places
