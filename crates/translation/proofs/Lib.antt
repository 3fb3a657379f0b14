-- What callers' proofs cite of an access: the case laws of its steps and answers, the block that covers an address, the tables, and the statement of demand 2.
pub mod Steps
pub mod Widened
pub mod Answers
pub mod Parts
pub mod Covering
pub mod Computes
pub mod Examples
pub mod Stated
