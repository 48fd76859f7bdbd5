-- the words that the proofs of this crate use
mod Words
-- lines that are cut off, and a line that is open
pub mod LineLemmas
-- lines of modules that go on with those before
pub mod ModuleLemmas
-- events that are recorded, block by block
pub mod RecorderLemmas
-- the lines of modules after events
pub mod LawLemmas
