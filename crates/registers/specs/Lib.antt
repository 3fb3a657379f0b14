-- The register set (rules 3): the check in its order, the set by value, and the block that covers an address.
pub mod Rules
pub mod Set
pub mod Blocks
pub mod Check
pub mod Examples
