-- The definitions that the contracts cite.
pub mod Finding
pub mod Walking
