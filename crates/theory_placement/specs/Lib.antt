-- Arrangements of pages in groups, when one exists, and the plain finite map, over any page type and hash.
pub mod Lists
pub mod Placement
pub mod Pairs
pub mod FiniteMap
pub mod Examples
