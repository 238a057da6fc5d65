pub mod Drafted
pub mod Live
