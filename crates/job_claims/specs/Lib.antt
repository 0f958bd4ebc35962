pub mod Job
pub mod Tables
