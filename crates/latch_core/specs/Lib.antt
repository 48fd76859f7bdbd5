-- The definitions of this crate, in the order in which to read them.
-- the sequence of a latch (Documentation/locking/seqlock.rst, latch sequence counters)
pub mod Sequences
-- the table at a generation
pub mod Histories
-- how a reader looks a key up
pub mod Attempts
-- the writer of a latched tree
pub mod Latches
-- what stays true at every step
pub mod Invariants
-- lists of stores that the writer plans, and when they carry an update out
pub mod Plans
-- the nodes of a memory, shared out between the free ones and the ones of the trees
pub mod FreeNodes
-- several changes of both copies, planned one after another
pub mod Changes
-- what a writer's core knows of the words, and when it accepts an update
pub mod Writers
-- a writer's core at rest that goes on with more nodes
pub mod Widening
-- the items of a table replaced by others, as one update
pub mod Replacements
-- whole attempts
pub mod Whole
-- what a reader's core has still to do, and how the values that it takes lead it on
pub mod Cores
-- what a writer's core and its list of stores show
pub mod WriterViews
-- a latch in words that readers share, and what they have loaded of it
pub mod Latched
-- attempts whose loads are steps of somebody who learns by them
pub mod Loading
