-- The laws of rounded quotients, for the crates above.
pub mod Rounded
pub mod Quotients
