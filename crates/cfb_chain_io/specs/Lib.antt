pub mod ChainEffects
