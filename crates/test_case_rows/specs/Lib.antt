-- The twelve cases (rules 9).
pub mod Cases
