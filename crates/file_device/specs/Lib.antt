pub mod FileDevice
pub mod FileMedium
pub mod Pair
pub mod Raw
