pub mod Header
pub mod Stands
pub mod Walk
