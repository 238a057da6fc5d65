pub mod First
pub mod Heads
pub mod Reading
pub mod Rules
