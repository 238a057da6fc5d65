pub mod Both
pub mod Finding
pub mod Fitting
pub mod Leading
pub mod Living
pub mod Rooted
pub mod Spotting
