pub mod Line
pub mod Rest
pub mod Places
pub mod Scan
