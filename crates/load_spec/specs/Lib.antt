pub mod Load
pub mod Example
