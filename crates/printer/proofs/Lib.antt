pub mod Left
pub mod PairLines
pub mod Within
pub mod Bare
pub mod Fits
