pub mod Answer
pub mod Drain
pub mod Block
pub mod Skip
