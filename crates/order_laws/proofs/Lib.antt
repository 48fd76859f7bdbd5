-- the words of all proofs of this crate
mod Words
-- laws of orders and tables
pub mod TableLemmas
pub mod PlaceLemmas
pub mod MeetLemmas
pub mod SetLemmas
pub mod LeftOutLemmas
pub mod WithoutLemmas
pub mod HalfOpenLemmas
pub mod InLineLemmas
pub mod FirstWordLemmas
