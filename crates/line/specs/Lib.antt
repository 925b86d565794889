pub mod Answer
pub mod Receiver
pub mod Rescan
