-- the words of all proofs of this crate
mod Words
pub mod ListLemmas
pub mod PlanLemmas
pub mod MirrorLemmas
pub mod WiderLemmas
