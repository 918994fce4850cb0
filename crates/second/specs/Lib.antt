-- The definition that a contract of `second` cites.
pub mod Moves
