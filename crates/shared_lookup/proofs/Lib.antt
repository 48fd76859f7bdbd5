-- the words of all proofs of this crate
mod Words
pub mod LedgerLemmas
pub mod EnlargingLemmas
pub mod CountLemmas
pub mod CheckLemmas
pub mod FoundLemmas
pub mod ReaderLemmas
pub mod PairedLemmas
pub mod ThreadLemmas
pub mod LookedLemmas
pub mod FollowingLemmas
