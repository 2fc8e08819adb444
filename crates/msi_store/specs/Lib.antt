pub mod Broken
pub mod Placing
pub mod Stores
