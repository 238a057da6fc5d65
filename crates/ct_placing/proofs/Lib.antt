pub mod Addresses
pub mod Collecting
pub mod Finding
pub mod Showing
pub mod Standing
pub mod Stretches
