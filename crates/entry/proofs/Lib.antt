-- What callers' proofs cite of an entry: bits put into words, widths, fields of words, matches, marks and PP, addresses, the round trips, the tables.
pub mod Widths
pub mod Packing
pub mod Matches
pub mod Marks
pub mod Addresses
pub mod RoundTrip
pub mod Computes
pub mod Examples
