-- the words of all proofs of this crate
mod Words
pub mod WordLemmas
pub mod StoreLemmas
pub mod HoldsLemmas
pub mod ReachLemmas
pub mod HeldLemmas
pub mod WiderLemmas
pub mod LinkLemmas
pub mod OwnedLinkLemmas
