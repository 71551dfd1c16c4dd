pub mod Items
pub mod NotGood
pub mod Places
pub mod Plain
pub mod ReadBack
pub mod ReadLemmas
pub mod TurnLemmas
pub mod Written
