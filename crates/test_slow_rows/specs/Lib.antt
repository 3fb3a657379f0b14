-- Rows that take long to compute: runs with a cache that break the discipline, and matches in both groups of a page.
pub mod Rows
pub mod Pairs
