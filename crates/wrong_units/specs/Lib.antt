pub mod Unit
pub mod Changed
pub mod Wrong
pub mod WrongBits
pub mod WrongChoice
pub mod WrongLarge
