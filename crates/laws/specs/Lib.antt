pub mod Families
pub mod Ranks
pub mod Equivalence
