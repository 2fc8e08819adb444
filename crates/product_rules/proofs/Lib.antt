-- Lemmas on products.
pub mod Climbed
pub mod Cut
pub mod Loose
pub mod Noted
pub mod Stands
