-- Lemmas on listings.
pub mod AlikeLists
