-- The definitions of this crate, in the order in which to read them.
-- the program's command line, as `clap` reads it
pub mod CommandLine
-- the job that the words of a command line ask for
pub mod Jobs
-- the files that a job reads, by their names, and whether its command writes what the system said
pub mod Requests
-- words of a command line that begin as options do, and are none
pub mod Operands
