pub mod Runs
pub mod Making
pub mod Copying
pub mod Adopting
pub mod Faults
pub mod Tallies
pub mod Putting
pub mod Moving
