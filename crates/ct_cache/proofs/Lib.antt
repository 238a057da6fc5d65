mod Changed
pub mod Kept
mod Tables
mod Told
