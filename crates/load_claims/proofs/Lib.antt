pub mod Back
pub mod Load
