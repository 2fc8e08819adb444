pub mod PoolPlaces
pub mod PoolIndexed
pub mod PoolRooms
pub mod PoolSteps
pub mod Laid
pub mod Rooms
pub mod Fresh
pub mod Adopted
pub mod AfterSteps
mod StepWalks
