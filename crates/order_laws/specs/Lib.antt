-- The definitions of this crate, in the order in which to read them.
-- an item as the tuple of its fields
pub mod Items
-- how items are ordered, and how a key compares with them
pub mod Orders
-- tables of items, and what a key finds in one
pub mod Tables
-- the numbers of the refusals
pub mod Refusals
