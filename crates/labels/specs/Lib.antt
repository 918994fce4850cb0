pub mod Label
pub mod Stands
pub mod Letters
pub mod Printed
pub mod Parts
