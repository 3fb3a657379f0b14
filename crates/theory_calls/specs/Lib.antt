-- What each exported call on a table answers and leaves in what it was lent; the plain finite map; and what is said of each call on any table.
pub mod Lent
pub mod WithoutTable
pub mod Request
pub mod Made
pub mod Rules
pub mod Answers
pub mod OnBytes
pub mod OnMap
pub mod Represents
pub mod FirstClear
pub mod AnyTable
pub mod Refusals
pub mod Arguments
pub mod Widened
pub mod Examples
pub mod PageRows
pub mod OperandRows
