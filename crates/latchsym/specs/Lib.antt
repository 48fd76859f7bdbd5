-- The definitions of this crate, in the order in which to read them.
-- events that are recorded: what is known of their files, and what is said of a listing
pub mod RecordedEvents
-- the lines that say what is noted of the listings of a job
pub mod JobNotes
-- what the system said of a failed call, if the job's command writes it
pub mod Reasons
-- what is said of names with `*` or `?`
pub mod Wildcards
-- what is said at the end of a run
pub mod Reports
-- what is said of a command line that gives no job
pub mod Misuses
-- the files of a job: what these hold, and the readers that are opened on them
pub mod Files
-- the outcome of a job: its engine's over the job's own readers
pub mod Outcomes
-- what the whole program does, from its words and files to its outputs and its status
pub mod Programs
