-- the words of all proofs of this crate
mod Words
-- how many words a form has
pub mod FormLemmas
-- what a line of a script is
pub mod ScriptLineLemmas
-- what the lines of a trace say of it
pub mod TraceLineLemmas
