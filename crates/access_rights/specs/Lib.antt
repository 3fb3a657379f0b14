-- What a fetch, a load and a store at an address would come to: the definition, and what is stated of it.
pub mod Rights
pub mod Held
pub mod Rows
pub mod Stated
