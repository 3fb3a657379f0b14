-- What callers' proofs cite of a register word.
pub mod Sdr1
pub mod Blocks
pub mod Asked
pub mod Shape
pub mod Order
pub mod Computes
pub mod Examples
