pub mod Naming
pub mod Slots
pub mod Spelling
pub mod Visits
