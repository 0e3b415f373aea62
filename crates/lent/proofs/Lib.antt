-- The laws of the lent walker.
pub mod Lendings
