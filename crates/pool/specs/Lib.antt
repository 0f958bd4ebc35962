pub mod Header
pub mod Pool
pub mod Outside
