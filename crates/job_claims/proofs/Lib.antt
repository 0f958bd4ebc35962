pub mod Lines
pub mod Decodes
pub mod Bytes
pub mod Example
