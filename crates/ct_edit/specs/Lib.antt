pub mod Changed
pub mod Edits
pub mod Planned
