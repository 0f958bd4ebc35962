pub mod Depths
pub mod Device
pub mod Held
pub mod Leaves
