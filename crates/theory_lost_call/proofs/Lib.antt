-- Proofs of how far two runs can differ of which one lacks a call.
pub mod Domain
pub mod Lost
pub mod Rows
pub mod Instances
