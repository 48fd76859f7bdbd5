-- the words of all proofs of this crate
mod Words
pub mod BatchLemmas
pub mod HistoryLemmas
