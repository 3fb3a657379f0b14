-- Proofs of what is said of every list of calls.
pub mod Stale
pub mod Invisible
pub mod Changes
pub mod Pages
pub mod Follows
pub mod Rights
pub mod Along
pub mod Acts
pub mod Standing
pub mod Theorem
pub mod Corollaries
pub mod Tested
pub mod Computes
pub mod Instances
pub mod Rows
pub mod Demands
