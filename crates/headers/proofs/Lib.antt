pub mod On
pub mod One
pub mod Reading
pub mod Found
pub mod Exact
pub mod Reach
