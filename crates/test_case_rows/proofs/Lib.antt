-- The proof that the twelve cases follow from the definitions.
pub mod Histories
pub mod Pair
pub mod Rows
pub mod Cases
