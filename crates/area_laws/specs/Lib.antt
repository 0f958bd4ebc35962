pub mod Run
pub mod Host
