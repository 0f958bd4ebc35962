pub mod Guest
pub mod GuestBits
pub mod GuestChoice
pub mod GuestLarge
