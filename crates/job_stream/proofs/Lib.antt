pub mod Buffer
pub mod Steps
pub mod Pieces
