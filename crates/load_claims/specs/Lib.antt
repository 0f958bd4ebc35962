pub mod Load
