pub mod Entries
pub mod Firsts
pub mod Heads
pub mod Order
pub mod Reading
pub mod Sound
pub mod Spare
