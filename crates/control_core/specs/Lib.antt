pub mod Desks
pub mod Machines
pub mod Books
pub mod Since
pub mod LastWork
pub mod Refusals
