pub mod Cuts
pub mod Ends
pub mod Feeds
pub mod Lines
pub mod Numbers
pub mod Puts
pub mod Verbs
pub mod Words
