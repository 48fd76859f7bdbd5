-- Who wants to believe what run and drive promise reads these, in this order.
-- what is promised of a trace: the words that the clauses cite
pub mod Promises
-- what was done from the opening on, and what it came to
pub mod Runs
-- each lookup that returned gives what was current
pub mod Safe
-- the item that a lookup returned answers by one load while its generation is current
pub mod Memory
-- a lookup that the writer leaves alone returns at its first attempt, soon
pub mod Quiet
-- and within fewer loads, since the writer's trees are red-black
pub mod Near
-- a run whose updates and lookups come one after another gives what a plain table gives
pub mod Plain
-- Who wants to know which steps there are goes on with these.
-- the single steps of the writer and of a reader
pub mod Steps
-- what a trace says of its run
pub mod Traces
-- the run that a list of commands means
pub mod Expands
-- What the code means: a lookup, a world, and what one event and a whole call do to it.
-- a lookup of the code, and what it loads next
pub mod Lookups
-- a world, and one after a history of accepted updates
pub mod Worlds
-- one event, and memory that runs out
pub mod WorldSteps
-- an update settled, and a key found, at once
pub mod AtOnce
-- how events are reported, the commands that a world obeys, and a lookup held apart
pub mod Reports
-- what is kept of a run that is recorded
pub mod Recordings
-- a run whose commands come one after another
pub mod Drivers
