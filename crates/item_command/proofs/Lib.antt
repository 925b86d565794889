pub mod AddresseeLaws
pub mod CommandLaws
pub mod ControlWords
