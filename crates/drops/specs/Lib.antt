pub mod Cut
pub mod Drop
