pub mod Cut
pub mod Emptied
pub mod GivenUp
pub mod Readied
pub mod Sides
