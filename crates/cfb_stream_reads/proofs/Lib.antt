pub mod Contents
pub mod AheadParts
