pub mod Covers
pub mod Rehearsals
pub mod Shared
