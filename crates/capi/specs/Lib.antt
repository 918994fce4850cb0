pub mod Exported
pub mod Cases
