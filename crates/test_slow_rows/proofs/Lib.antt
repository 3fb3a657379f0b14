-- The proofs of the rows.
pub mod Rows
pub mod Pairs
