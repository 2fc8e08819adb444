pub mod Adopted
pub mod Counted
pub mod InPlace
