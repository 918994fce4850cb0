pub mod Three
pub mod Turns
pub mod Noted
pub mod Marked
pub mod Written
