-- What callers' proofs cite of placement: counting and permutations, the finite map, the decision and the theorem on arrangements.
pub mod Lists
pub mod Perm
pub mod Decision
pub mod Examples
pub mod FiniteMap
pub mod Pairs
pub mod Arrangements
