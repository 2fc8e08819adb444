pub mod Edited
pub mod Blocked
pub mod Marking
pub mod RunStarts
pub mod Splicing
pub mod Views
pub mod Walked
