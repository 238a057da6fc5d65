pub mod Bytes
pub mod Drafted
pub mod First
