pub mod Refused
pub mod Exchanges
pub mod Renames
