pub mod Record
pub mod Words
pub mod Open
