-- The definitions of this crate, in the order in which to read them.
-- the header of a trace, its first line
pub mod Header
-- the line `batch` of a trace
pub mod Batch
-- the commands that lines of a trace are
pub mod Commands
-- what a trace says
pub mod Trace
-- the commands of a trace one after another
pub mod CommandLines
-- what a trace is, line by line
pub mod Understood
-- what a script says
pub mod Scripts
