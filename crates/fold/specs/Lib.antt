pub mod Fusions
pub mod Steps
pub mod Foldings
