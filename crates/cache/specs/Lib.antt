-- The cache of translations: sets, places, the test of a hit, and what a load and an invalidate write.
pub mod Cache
pub mod Placed
pub mod Examples
