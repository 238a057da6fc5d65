pub mod Asked
pub mod Lines
pub mod Medium
pub mod Outbox
pub mod Past
