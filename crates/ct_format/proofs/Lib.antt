pub mod Fresh
pub mod Magic
pub mod Moments
pub mod Out
pub mod Runs
