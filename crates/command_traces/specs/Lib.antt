-- The definitions of this crate, in the order in which to read them.
-- the lines that a trace writes
pub mod TraceTexts
-- what is written for a trace that is read, and the lines of it that are left
pub mod Traces
-- the lines that the steps of a trace write
pub mod StepTexts
-- what is written for a trace whose steps are asked for, and what its commands do
pub mod StepTraces
