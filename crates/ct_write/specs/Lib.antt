pub mod Lengthened
pub mod Prepared
pub mod Recorded
pub mod Written
