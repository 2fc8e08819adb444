pub mod Reread
pub mod Opened
