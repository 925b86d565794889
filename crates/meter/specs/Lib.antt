pub mod Meter
pub mod Host
pub mod Answer
