pub mod Effects
pub mod Accepted
pub mod AtRest
pub mod One
pub mod Cases
