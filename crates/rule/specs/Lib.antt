-- The definitions that the contracts cite.
pub mod Cells
pub mod Rule
pub mod Samples
pub mod Refusals
