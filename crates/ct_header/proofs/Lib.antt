pub mod Chained
pub mod Shown
pub mod Stays
