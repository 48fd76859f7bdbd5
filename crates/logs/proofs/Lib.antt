-- the words of all proofs of this crate
mod Definitions
-- lines that are cut off
pub mod LineLemmas
-- blocks that are read and written one after the other
pub mod AnnotationLemmas
-- texts that begin bytes
pub mod TextLemmas
-- a log that does not say where its kernel lay
pub mod KernelOffsetLemmas
-- a line in which a text is inserted
pub mod InsertionLemmas
-- a line that says nothing of its kernel
pub mod KernelReportLemmas
-- the things that begin a line
pub mod PlaceLemmas
-- words that are too short, and leaps over them
pub mod WordLemmas
-- what a failed write leaves
pub mod PutLemmas
-- which of the lines that end among bytes have an address word
pub mod UnnamedLemmas
