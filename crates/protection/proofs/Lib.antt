-- What callers' proofs cite of protection and faults.
pub mod Computes
pub mod Examples
