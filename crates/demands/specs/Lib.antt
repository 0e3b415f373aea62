pub mod Causes
pub mod Histories
pub mod Rows
