-- Words of 32 bits: their bits, fields that are ones only at their low end, words among bytes; tests of the numbers below a bound; and rows.
pub mod Bits
pub mod Ones
pub mod Words
pub mod Below
pub mod Rows
pub mod Examples
