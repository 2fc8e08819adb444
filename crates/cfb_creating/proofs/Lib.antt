pub mod NewBytes
pub mod NewEntries
pub mod NewMeaning
