pub mod Allowed
pub mod Said
