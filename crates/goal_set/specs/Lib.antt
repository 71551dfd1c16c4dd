pub mod Kinds
pub mod Read
pub mod AnyMeaning
pub mod AnyLaws
pub mod Kept
