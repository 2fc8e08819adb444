pub mod Sorting
pub mod Passing
pub mod InTurn
pub mod KeysApart
pub mod Splitting
pub mod Each
