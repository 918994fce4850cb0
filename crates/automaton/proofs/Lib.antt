pub mod First
pub mod Fault
pub mod Effects
pub mod Sound
pub mod One
