pub mod Records
pub mod Encoded
pub mod Laws
