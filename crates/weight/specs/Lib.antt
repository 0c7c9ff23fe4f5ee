pub mod Additions
pub mod Kinds
pub mod Exact
pub mod Counts
pub mod KeySets
pub mod Weights
