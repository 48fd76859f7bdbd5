-- the words of all proofs of this crate
mod Words
pub mod CatalogLemmas
pub mod NotedLemmas
pub mod FollowingLemmas
