-- The parts of an access on a table, with a cache or without one, as the code goes through them.
pub mod Part
