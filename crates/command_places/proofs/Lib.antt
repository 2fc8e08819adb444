pub mod Unread
pub mod Depths
