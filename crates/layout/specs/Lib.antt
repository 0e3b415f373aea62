-- The definitions that the contracts cite.
pub mod Images
pub mod Shapes
