pub mod Owners
pub mod LiveFile
pub mod LiveInvariant
pub mod Held
