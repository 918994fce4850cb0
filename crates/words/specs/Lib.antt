pub mod Word
pub mod Sum
