-- The summary as an exported table.
pub mod Numbers
pub mod Moments
pub mod Reading
pub mod Writing
pub mod Kept
