pub mod Closed
pub mod Landing
pub mod Made
pub mod Rest
