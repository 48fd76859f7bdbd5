-- the words of all proofs of this crate
mod Words
pub mod SideLemmas
pub mod TurnLemmas
pub mod ColourLemmas
pub mod RelinkLemmas
pub mod LeadsLemmas
pub mod MendLemmas
pub mod FillLemmas
pub mod ReplaceLemmas
pub mod PathLemmas
pub mod PlaceRows
pub mod SoughtRows
pub mod MeetRows
pub mod DepthLemmas
pub mod GrowLemmas
pub mod TopLemmas
