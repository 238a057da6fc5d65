pub mod Parts
pub mod GivingUp
pub mod Sides
pub mod Readying
pub mod Wholes
pub mod Shortening
pub mod Emptying
pub mod Emptied
