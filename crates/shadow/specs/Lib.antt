pub mod Held
pub mod Fill
pub mod Watch
