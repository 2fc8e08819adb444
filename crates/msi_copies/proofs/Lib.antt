pub mod Resting
pub mod Columns
