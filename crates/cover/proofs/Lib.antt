pub mod Passing
pub mod Bares
pub mod Covers
