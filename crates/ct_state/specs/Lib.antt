pub mod Alike
pub mod Edits
pub mod Forest
pub mod Leads
pub mod Links
pub mod Live
