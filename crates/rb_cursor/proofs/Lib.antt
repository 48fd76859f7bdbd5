-- the words of all proofs of this crate
mod Words
pub mod KeyedLemmas
pub mod SideLemmas
pub mod FieldLemmas
pub mod ChangeLemmas
pub mod ReadLemmas
pub mod TurnLemmas
pub mod BlankLemmas
pub mod SeekLemmas
pub mod StepLemmas
pub mod InsertSteps
pub mod EraseSteps
pub mod TakeSteps
