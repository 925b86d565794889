pub mod Replay
pub mod Play
pub mod ByHand
