pub mod Table
pub mod Content
pub mod Said
