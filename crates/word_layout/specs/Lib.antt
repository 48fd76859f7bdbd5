-- The definitions of this crate, in the order in which to read them.
-- the greatest numbers of a layout
pub mod Limits
-- what a layout shows
pub mod Layouts
-- the two copies of the tree
pub mod Copies
-- a memory is a list of words
pub mod Words
-- stores
pub mod Stores
-- more nodes
pub mod Wider
-- a tree of node numbers as a list, from which it is built again
pub mod NodesCode
