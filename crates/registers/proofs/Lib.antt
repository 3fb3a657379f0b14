-- What callers' proofs cite of the register set.
pub mod Set
pub mod Spread
pub mod Wide
pub mod Widened
pub mod Pages
pub mod Placed
pub mod Blocks
pub mod Check
pub mod Computes
pub mod Examples
