pub mod Journals
pub mod Faults
pub mod Rule
pub mod Plays
pub mod Known
pub mod Passes
