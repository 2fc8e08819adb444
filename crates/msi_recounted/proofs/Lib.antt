pub mod Places
pub mod Recounting
pub mod WrittenCounts
pub mod Adopted
