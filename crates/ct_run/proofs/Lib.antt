pub mod Carried
pub mod Commands
pub mod Ends
pub mod Images
pub mod Promised
pub mod Scripts
pub mod Works
pub mod Written
