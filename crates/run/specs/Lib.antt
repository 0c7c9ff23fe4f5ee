pub mod Firing
pub mod Walks
pub mod Runs
pub mod Calls
pub mod States
pub mod Counted
pub mod Log
pub mod Follows
