pub mod Laws
pub mod Fresh
pub mod Outside
