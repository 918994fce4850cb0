pub mod One
pub mod Cases
