pub mod Note
pub mod Work
pub mod Shape
pub mod Front
pub mod Floor
pub mod Pull
