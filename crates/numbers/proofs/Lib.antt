-- The rows of the numbers, and what a refusal's number is not.
pub mod Examples
pub mod Refused
