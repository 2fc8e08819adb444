pub mod Choices
pub mod Worked
