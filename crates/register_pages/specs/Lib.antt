-- The pairs of a register page's sides, what the check's pass over them tells, the pair that covers an address as a number, and what replacing a word of a page comes to.
pub mod Side
pub mod Pair
pub mod Replace
