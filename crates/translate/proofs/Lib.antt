pub mod Fits
pub mod Bits
pub mod Leaves
