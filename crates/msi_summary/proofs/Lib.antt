pub mod Worked
pub mod Identifiers
