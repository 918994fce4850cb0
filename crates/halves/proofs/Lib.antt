pub mod Places
pub mod Steps
pub mod Apart
pub mod Drawing
pub mod Rest
