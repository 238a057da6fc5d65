pub mod Dumped
pub mod Dumps
pub mod Looks
pub mod Places
