-- Hashed page tables over any page type, hash, entry format and way of storing entries: matches of a page, free entries, and the relation
-- "this table represents this finite map"; and runs of any machine over a list of calls.
pub mod Matches
pub mod Layout
pub mod Represents
pub mod FourGroups
pub mod Runs
