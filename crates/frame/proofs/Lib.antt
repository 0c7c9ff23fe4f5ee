pub mod Readings
pub mod Rounds
pub mod Again
pub mod Puts
pub mod Written
pub mod Fields
pub mod Feeds
pub mod Replied
