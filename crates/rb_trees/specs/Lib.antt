-- The definitions of this crate, in the order in which to read them.
-- trees of red and black nodes, each with its record
pub mod Trees
-- the two sides of a node
pub mod Sides
-- rotations
pub mod Turns
-- an insert
pub mod Inserted
-- an erase
pub mod Erased
-- the links of a tree in a memory, and stores that lead from one tree to another
pub mod Linked
-- searches in a tree
pub mod Found
-- a place in a tree
pub mod Paths
-- a tree in the place of another, on the way up of an insert or an erase
pub mod Replaced
