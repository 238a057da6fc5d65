pub mod Counting
pub mod Going
pub mod Numbered
pub mod Root
