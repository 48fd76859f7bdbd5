-- The definitions of this crate, in the order in which to read them.
-- the numbers that calls return, and the texts of these
pub mod Answers
-- and their texts
pub mod AnswerTexts
-- the numbers of the kinds of content
pub mod Kinds
-- what a handle owns
pub mod Owning
-- what a handle of a catalog holds
pub mod HeldCatalogs
-- what a handle holds
pub mod Handles
-- what the bytes of the listings say
pub mod Opening
-- the struct of C that has the listings
pub mod Listings
-- what is known of an address, and what a call writes of it
pub mod Finding
-- names as places in the listings
pub mod Named
-- the answer for one of several addresses
pub mod Batches
-- the modules, the regions and the symbols of a catalog
pub mod ByNumber
-- a catalog in rows of plain memory
pub mod Views
-- how many rows a view has
pub mod Viewing
-- what a view is laid out of, step by step
pub mod Flattening
-- what the calls on catalogs return
pub mod Catalogs
-- what a change of a catalog's listing leaves
pub mod Changing
-- the numbers that calls on a writer return
pub mod Updates
-- the items of a table replaced by others
pub mod Replacing
-- what lookups return
pub mod Lookups
-- what the opening of a table gives
pub mod Tables
-- what the enlarging of a table gives
pub mod Enlarging
-- what the adding of a reader gives
pub mod Adding
-- what the taking back of a reader gives
pub mod Taking
-- what a follower gives
pub mod Following
-- the claims of the slots of a pool
pub mod Pools
