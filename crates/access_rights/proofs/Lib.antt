-- What one access would newly mark, the rules that the three accesses share, the call by its lengths, and what is stated of it.
pub mod ByTable
pub mod Marks
pub mod Shared
pub mod Call
pub mod Words
pub mod AnyMarks
pub mod Rows
pub mod Stated
