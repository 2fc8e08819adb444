-- Lemmas on exports.
pub mod ExportedRows
pub mod FileNames
pub mod Joined
pub mod Numbered
