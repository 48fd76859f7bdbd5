-- the words of all proofs of this crate
mod Words
-- facts about the types of std alone, by subject
pub mod Bools
pub mod Numbers
pub mod Orderings
pub mod Options
pub mod Lists
pub mod Members
pub mod Each
pub mod Tests
pub mod Pairs
pub mod Ranges
pub mod Maps
pub mod Digits
