pub mod Digits
pub mod Address
