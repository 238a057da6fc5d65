pub mod Answered
pub mod Parents
pub mod Refusing
pub mod Sounds
pub mod Ways
