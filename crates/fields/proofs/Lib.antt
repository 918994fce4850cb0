pub mod Same
pub mod Tests
pub mod Laid
pub mod Digits
pub mod Shown
pub mod Width
