-- The definitions of this crate, in the order in which to read them.
-- catalogs by generation
pub mod Catalogs
-- code that the caller knows
pub mod Code
-- code that was noted, by generation and by stamp
pub mod Noted
-- a table that has the regions of the catalog shown last
pub mod Following
