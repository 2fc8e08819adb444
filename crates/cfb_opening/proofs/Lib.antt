pub mod Fronts
pub mod ReadsInTurn
pub mod TablesRead
pub mod CutChains
pub mod TreesTaken
pub mod PartsRead
pub mod Tied
pub mod Readings
