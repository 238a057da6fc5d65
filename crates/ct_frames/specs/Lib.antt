pub mod Agrees
pub mod Free
