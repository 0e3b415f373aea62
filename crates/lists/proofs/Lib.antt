-- The laws of lists, rows and searches, for the crates above.
pub mod Tests
pub mod Filters
pub mod Runs
pub mod Searches
pub mod Unions
pub mod Places
pub mod Steps
pub mod Stores
pub mod Same
