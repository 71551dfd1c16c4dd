pub mod Laws
pub mod Events
pub mod Books
pub mod Reported
pub mod Changes
pub mod Alone
