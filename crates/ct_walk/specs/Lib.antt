pub mod Depths
pub mod Growth
pub mod Has
pub mod Looks
pub mod Pages
pub mod Runs
pub mod Staging
