-- A page table entry: its words and fields, what packing and unpacking make of each other, and worked examples of every definition.
pub mod Entry
pub mod RoundTrip
pub mod Examples
