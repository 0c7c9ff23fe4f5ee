pub mod Boards
pub mod Standings
pub mod Orders
pub mod Replies
pub mod Histories
