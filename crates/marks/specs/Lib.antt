pub mod Key
pub mod ByLevel
pub mod Table
pub mod Reading
