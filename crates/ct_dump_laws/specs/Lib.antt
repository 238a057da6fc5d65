pub mod Dumpable
pub mod Plain
