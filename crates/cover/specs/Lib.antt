pub mod Checks
pub mod Bare
pub mod Sheets
pub mod Certificates
