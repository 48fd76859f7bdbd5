-- the words of all proofs of this crate
mod Definitions
mod SafeRunLemmas
mod QuietRunLemmas
mod LoadLemmas
mod WorldLemmas
pub mod RunLemmas
pub mod ReportLemmas
mod RecordingLemmas
mod AtOnceLemmas
mod PlainRunLemmas
pub mod IdleLemmas
