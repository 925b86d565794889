pub mod Front
pub mod Trace
pub mod Records
