pub mod Texts
pub mod Pools
pub mod Sets
pub mod Told
