-- The right to an access and its faults: mode and kind, protection, fault words, and worked tables.
pub mod Access
pub mod Protection
pub mod Fault
pub mod Examples
