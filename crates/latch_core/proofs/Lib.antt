-- the words of all proofs of this crate
mod Words
pub mod ReadingLemmas
pub mod WalkLemmas
pub mod TestLemmas
pub mod SoundLemmas
pub mod StoreOrderLemmas
pub mod ChangeLemmas
pub mod ClashLemmas
pub mod WriterLemmas
pub mod BeginLemmas
pub mod LatchedLemmas
pub mod WideningLemmas
pub mod ReplacementLemmas
pub mod LoadingLemmas
