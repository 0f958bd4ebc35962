pub mod Entries
pub mod Halves
