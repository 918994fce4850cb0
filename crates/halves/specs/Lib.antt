pub mod Drawn
pub mod Rising
pub mod Half
