pub mod Committing
pub mod Goes
pub mod Pairing
