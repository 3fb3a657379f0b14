-- Laws of the cache, for the crates above.
pub mod Cache
pub mod Hits
pub mod Steps
pub mod None
pub mod Computes
pub mod Examples
