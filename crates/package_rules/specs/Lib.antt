-- The rules that a package keeps.
pub mod Asked
pub mod Cells
pub mod Firsts
pub mod Foreign
pub mod Keys
pub mod Lent
pub mod Needs
pub mod Parts
pub mod Places
pub mod Refers
pub mod Rules
pub mod Said
pub mod Sentences
pub mod Streams
