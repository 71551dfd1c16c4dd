pub mod Below
pub mod Carrying
pub mod Entries
pub mod Places
pub mod Plain
