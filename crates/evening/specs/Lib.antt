-- The definitions that the contracts cite.
pub mod Replies
pub mod Runs
