pub mod Sets
pub mod Sums
pub mod Lowest
pub mod Arcs
pub mod Nets
pub mod Counting
pub mod Drawings
pub mod Strands
