pub mod Drafted
pub mod Shown
