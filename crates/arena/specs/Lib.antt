pub mod Job
pub mod Refusals
pub mod Arena
pub mod Seats
pub mod Game
