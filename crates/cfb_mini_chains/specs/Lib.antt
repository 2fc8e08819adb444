pub mod MiniChainCalls
pub mod MiniChainViews
pub mod MiniGrowing
