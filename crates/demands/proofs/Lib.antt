pub mod Ends
pub mod Played
pub mod Order
pub mod Lifted
pub mod Demands
pub mod Hanoi
pub mod Paper
