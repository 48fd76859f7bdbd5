-- the words of all proofs of this crate
mod Words
pub mod ReaderLemmas
pub mod RuleLemmas
pub mod WriterLemmas
pub mod WalkLemmas
pub mod MemoryLemmas
pub mod EnlargingLemmas
pub mod ReplacingLemmas
