pub mod Ends
pub mod Held
pub mod Looks
pub mod Rules
pub mod Texts
pub mod Told
