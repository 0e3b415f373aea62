-- The laws.
pub mod Places
pub mod Runs
pub mod Rows
