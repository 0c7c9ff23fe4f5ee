pub mod Complements
pub mod Copies
pub mod Rows
pub mod Turning
