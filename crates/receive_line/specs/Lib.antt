pub mod WholeLine
pub mod Receiving
