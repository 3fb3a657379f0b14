-- Laws of hash, groups and entries in groups, for the crates above.
pub mod Hash
pub mod Group
pub mod Entries
pub mod Stored
pub mod Lent
pub mod Free
pub mod Computes
pub mod Examples
