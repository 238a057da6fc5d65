pub mod Tallies
pub mod Tried
