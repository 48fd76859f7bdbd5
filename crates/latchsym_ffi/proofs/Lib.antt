-- the words that the proofs of this crate use
mod Words
-- the kit's words of a walk over raw pointers
pub mod Walking
-- the machine values of a box that is out of its place, and of the pointer to content
pub mod LooseValues
pub mod PointerValues
-- a loop that seeks in a list
mod FindLemmas
-- loops over two lists
mod MapLemmas
-- what a search of a view finds
mod ViewLemmas
-- what a view is laid out of
mod FlatteningLemmas
-- handles may go to other threads
mod Sent
-- two rounds over the slots of a pool
mod PoolLemmas
