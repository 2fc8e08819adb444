pub mod Children
pub mod Kept
pub mod Later
pub mod Room
pub mod StoredLaws
