-- The numbers of results, refusals and lengths by name, and each beside the number that the rules state.
pub mod Numbers
pub mod Refused
pub mod Examples
