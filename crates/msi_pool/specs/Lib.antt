pub mod Pool
pub mod PoolKept
pub mod PoolState
pub mod PoolReading
pub mod Refs
pub mod PoolDraft
pub mod PoolReady
