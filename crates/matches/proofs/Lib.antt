-- Laws of a page's matches, for the crates above.
pub mod Matches
pub mod Merged
pub mod Found
pub mod Agreement
pub mod Computes
pub mod Examples
