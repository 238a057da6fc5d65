pub mod Meeting
pub mod Naming
pub mod Spelt
pub mod Visiting
