pub mod Names
pub mod Text
pub mod Meaning
pub mod Reading
pub mod Judged
pub mod Ends
