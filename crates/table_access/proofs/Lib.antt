-- Laws of the parts of an access that the functions' proofs cite.
pub mod Finds
pub mod Parts
pub mod Operands
pub mod Calls
