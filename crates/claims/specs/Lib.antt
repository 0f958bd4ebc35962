pub mod Run
pub mod Safety
pub mod Plain
pub mod Counted
pub mod Lookups
pub mod Bytes
