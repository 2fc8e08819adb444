pub mod Entries
pub mod Marks
pub mod Places
pub mod Uses
pub mod Views
