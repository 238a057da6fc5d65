pub mod Formatting
pub mod Made
