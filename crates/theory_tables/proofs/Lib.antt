-- What callers' proofs cite of tables: on any table, matches, free places, entries put and matches overwritten; on a table that represents a
-- finite map, its facts and its steps; and runs of machines.
pub mod Counts
pub mod Matches
pub mod Groups
pub mod Places
pub mod First
pub mod Puts
pub mod Overwrites
pub mod Edits
pub mod Pairs
pub mod Represented
pub mod Steps
pub mod FourGroups
pub mod Runs
pub mod Computes
