-- Proofs of what is said of accesses with a cache.
pub mod Backed
pub mod Hits
pub mod Operands
pub mod Found
pub mod Parts
pub mod Refusals
pub mod Loads
pub mod AnyCache
pub mod Computes
pub mod Rows
