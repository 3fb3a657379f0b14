-- One register word (rules 3): SDR1, a segment register, a block pair's upper and lower word.
pub mod Sdr1
pub mod Segment
pub mod Block
pub mod Asked
pub mod Examples
