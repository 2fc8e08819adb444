pub mod FrontWritten
pub mod GoingOn
pub mod WrittenParts
pub mod Owning
pub mod ReadParts
pub mod Resizing
pub mod Leaning
