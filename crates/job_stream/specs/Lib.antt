pub mod Whole
pub mod Turns
