pub mod Block
pub mod Hear
pub mod Run
