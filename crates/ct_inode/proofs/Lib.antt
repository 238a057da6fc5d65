pub mod Live
pub mod Loaded
pub mod Numbers
pub mod Rewritten
