pub mod Growable
