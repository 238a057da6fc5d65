pub mod Cover
pub mod Lines
pub mod Plans
pub mod Tails
pub mod Bounds
pub mod Enough
