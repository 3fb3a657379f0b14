-- Laws of edits, for the crates above.
pub mod Edits
pub mod Alone
pub mod Computes
pub mod Examples
