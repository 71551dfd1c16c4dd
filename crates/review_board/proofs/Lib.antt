mod ByIds
mod Steps
mod Places
mod Histories
mod Owners
