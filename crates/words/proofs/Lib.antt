-- What callers' proofs cite of words: masks and shifts, ones at the low end, words among bytes, tests below a bound.
pub mod Tests
pub mod Masks
pub mod Bits
pub mod Without
pub mod Ones
pub mod Words
pub mod Below
pub mod Computes
pub mod Examples
pub mod Zero
