-- What the contracts cite. Assumes nothing.
pub mod Hit
pub mod Rounds
