pub mod Called
pub mod Rested
