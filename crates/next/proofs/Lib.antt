-- What callers cite, and what the proofs of the functions use. Assumes nothing.
pub mod Laws
mod Steps
