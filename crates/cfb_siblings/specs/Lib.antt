pub mod Changes
pub mod Links
pub mod Places
pub mod Reading
pub mod Rotations
