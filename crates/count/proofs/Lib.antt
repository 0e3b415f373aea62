-- What the proofs of several functions use, and what callers may cite.
pub mod Laws
mod Folds
mod Steps
