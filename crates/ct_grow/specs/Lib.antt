pub mod Drafted
pub mod Follows
pub mod Grown
pub mod Moments
