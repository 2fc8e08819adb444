-- Lemmas on places.
pub mod AskedPut
pub mod CellOrder
pub mod EntriesPut
pub mod FirstsPut
pub mod ForeignFound
pub mod Given
pub mod Kept
pub mod Left
pub mod Numbers
pub mod PartOrder
pub mod StreamNames
pub mod Told
pub mod ToldForeign
pub mod ToldKeys
pub mod ToldStreams
