pub mod Summary
pub mod Edits
