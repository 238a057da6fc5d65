pub mod Grows
pub mod Splits
