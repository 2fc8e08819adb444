pub mod PoolHeads
pub mod PoolReads
pub mod PoolFound
pub mod PoolRoundTrip
pub mod PoolStays
pub mod PoolFree
pub mod PoolFits
pub mod Worked
