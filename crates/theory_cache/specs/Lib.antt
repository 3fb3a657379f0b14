-- An access with a cache and an invalidate, and what is said of them on any table and any cache.
pub mod Cached
pub mod Shown
pub mod AnyCache
pub mod Rows
