pub mod Answers
pub mod Fields
pub mod Heads
pub mod Reading
pub mod Stream
pub mod Whole
