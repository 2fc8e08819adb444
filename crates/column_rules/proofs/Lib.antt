-- Lemmas on what `_Validation` says.
pub mod Stands
