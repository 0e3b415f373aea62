-- The definitions that the contracts of `block` cite. Assumes nothing.
pub mod Little
pub mod Sums
pub mod Folds
