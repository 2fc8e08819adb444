pub mod Places
pub mod PoolIndex
pub mod PoolParts
pub mod PoolDraft
pub mod PoolReady
