pub mod Loops
pub mod Ring
pub mod Shows
pub mod Automatic
pub mod Chosen
