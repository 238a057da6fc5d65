pub mod Asking
pub mod Mounted
pub mod Showing
pub mod Values
