-- the words of all proofs of this crate
mod Words
pub mod WorkLemmas
pub mod RecordingLemmas
pub mod MomentLemmas
pub mod LoadLemmas
pub mod SafeLemmas
pub mod RisingLemmas
pub mod RunLemmas
pub mod NeededLemmas
pub mod QuietLemmas
pub mod BarrierLemmas
pub mod ReaderLemmas
