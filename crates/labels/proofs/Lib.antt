pub mod Masks
pub mod Walk
pub mod Reach
pub mod Going
pub mod Units
pub mod One
pub mod Exact
pub mod Printed
