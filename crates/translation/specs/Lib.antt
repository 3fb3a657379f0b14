-- One access without a table's bytes, by its steps (rules 5): the outcome and its answer; worked tables, and what is stated of an access.
pub mod Steps
pub mod Decision
pub mod Operand
pub mod Examples
pub mod Stated
