-- The definitions of this crate, in the order in which to read them.
-- what a cursor shows
pub mod Zippers
-- the two sides of a node in a slab
pub mod Sides
-- going up
pub mod Closing
-- going down
pub mod Opening
-- the node in hand
pub mod Tops
-- trees, a path and blank nodes in a slab
pub mod Keyed
-- what a write of the link of the nearest node above makes of a slab
pub mod Writes
-- what the fields of a cursor are, and what they show
pub mod Places
-- a link to a tree of records in a slab
pub mod Links
-- what a reading of a tree shows
pub mod Readings
-- a list of stores that has room for more, and more stores in it
pub mod Stores
-- what an insert and an erase make of the records, and of the list of stores
pub mod Changes
