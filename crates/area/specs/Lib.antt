pub mod Tree
pub mod Outside
