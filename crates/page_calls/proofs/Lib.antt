-- What the calls on one page have in common, for the crates above.
pub mod Searched
