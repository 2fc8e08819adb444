pub mod Changing
pub mod Reading
pub mod Room
pub mod Shown
pub mod StoredPackages
