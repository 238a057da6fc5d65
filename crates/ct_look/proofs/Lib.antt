pub mod Filling
pub mod Following
pub mod Listed
pub mod Looking
pub mod Peeking
pub mod Reading
pub mod Skipping
