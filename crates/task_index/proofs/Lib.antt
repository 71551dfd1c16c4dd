pub mod Firsts
pub mod Holders
pub mod Notes
pub mod Trees
pub mod Writes
