-- Two runs of which one lacks a call.
pub mod Lost
pub mod Rows
pub mod Instances
