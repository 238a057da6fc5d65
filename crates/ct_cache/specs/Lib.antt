pub mod Agrees
pub mod Cells
pub mod Known
pub mod Seen
