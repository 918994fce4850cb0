pub mod Game
pub mod Lift
pub mod Settle
pub mod Play
pub mod Reply
pub mod Measure
pub mod Half
