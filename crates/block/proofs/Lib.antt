-- The laws of bytes, sums and sealed blocks, for this crate's proofs and for crates above. Assumes nothing.
pub mod Numbers
pub mod Totals
pub mod Folds
pub mod Blocks
pub mod Examples
