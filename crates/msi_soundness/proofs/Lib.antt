pub mod Counted
pub mod Noted
pub mod Taken
pub mod Told
pub mod Unread
pub mod Steps
