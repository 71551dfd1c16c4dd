pub mod Answers
pub mod Bodies
pub mod Plain
pub mod Refusals
pub mod Texts
