pub mod Listings
pub mod Reports
