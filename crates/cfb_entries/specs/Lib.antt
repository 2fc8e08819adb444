pub mod Holding
pub mod Listed
pub mod Lists
pub mod Others
pub mod Parts
pub mod Pending
pub mod Rules
pub mod Walk
