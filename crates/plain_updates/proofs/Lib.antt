-- the words of all proofs of this crate
mod Words
-- the first test of a list that holds
pub mod TestLemmas
