pub mod Open
pub mod Opening
pub mod Accepted
pub mod One
pub mod Seats
pub mod Begun
pub mod Games
