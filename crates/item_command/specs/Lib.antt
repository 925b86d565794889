pub mod Command
pub mod Addressee
pub mod Reply
