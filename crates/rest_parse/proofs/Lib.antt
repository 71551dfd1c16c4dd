pub mod Ascii
pub mod Static
