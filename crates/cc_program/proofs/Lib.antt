pub mod Inserted
pub mod Crowds
pub mod Causes
