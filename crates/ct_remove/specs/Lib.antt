pub mod Asked
pub mod Erased
pub mod Removed
