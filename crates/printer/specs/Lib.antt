pub mod Printed
pub mod Small
