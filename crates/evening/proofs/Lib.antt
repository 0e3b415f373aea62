-- The laws of an evening.
pub mod Replying
pub mod Staying
pub mod Keeping
pub mod Feeding
pub mod Pieces
pub mod Whole
pub mod Outcomes
pub mod Listing
