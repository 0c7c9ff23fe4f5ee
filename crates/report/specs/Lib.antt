pub mod Texts
pub mod Checks
