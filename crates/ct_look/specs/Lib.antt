pub mod Content
pub mod Holes
pub mod Looks
