-- the words of all proofs of this crate
mod Words
-- a fault that a function hands on
pub mod FaultLemmas
-- what holds of a catalog that was opened
pub mod OpenedLemmas
-- what is returned where a history is read
pub mod HistoryLemmas
-- what a command returns that wrote all of its text, or a beginning of it
pub mod WrittenLemmas
