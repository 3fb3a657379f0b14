-- What callers' proofs cite of a register page's bytes.
pub mod Pass
pub mod Page
pub mod Sides
pub mod Replace
