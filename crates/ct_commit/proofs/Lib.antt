pub mod Emptying
pub mod Given
pub mod Landed
pub mod Made
pub mod Pages
pub mod Resting
pub mod States
