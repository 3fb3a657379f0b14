-- The one list of calls, on bytes and on the finite map; histories and the discipline of the cache; and what is said of every such list.
pub mod Calls
pub mod Fed
pub mod Discipline
pub mod Histories
pub mod Theorem
pub mod Invisible
pub mod Rows
pub mod Instances
pub mod Demands
