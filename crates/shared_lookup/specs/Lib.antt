-- The definitions of this crate, in the order in which to read them.
-- a table with the log of its updates
pub mod Ledgers
-- a ledger that goes on with more nodes
pub mod Enlarging
-- what a load, an unload and the end of a module's start do to it
pub mod Changes
-- how many entries of a list a property holds of
pub mod Counts
-- two lists whose entries belong together
pub mod Paired
-- what several writers and readers come back with
pub mod Servings
-- what the readers know
pub mod Readers
-- how their answers are checked
pub mod Checks
-- what became of the changes of a list, in the order of a log
pub mod Followings
-- what their threads are given
pub mod Threads
