pub mod Same
pub mod SameLaws
