pub mod Chained
pub mod Fed
