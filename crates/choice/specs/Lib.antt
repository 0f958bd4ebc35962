pub mod Window
pub mod Order
pub mod Reading
pub mod Refusal
