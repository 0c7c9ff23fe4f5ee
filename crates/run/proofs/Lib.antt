pub mod Walks
pub mod Firings
pub mod Accepts
pub mod Chains
pub mod Sound
pub mod Weights
pub mod Whole
