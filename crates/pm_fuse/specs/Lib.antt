pub mod Fuse
