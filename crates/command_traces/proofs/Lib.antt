-- the words of all proofs of this crate
mod Words
-- lines of events from their parts
mod EventLineLemmas
-- commands that are taken from the lines of a trace, and what its engines answer
mod TraceLineLemmas
-- what is done and written of a trace whose steps are told, one command after another
mod StepLemmas
-- the text of a trace whose commands are run one after another
mod GatheredLemmas
