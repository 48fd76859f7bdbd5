-- The definitions of this crate, in the order in which to read them.
-- a TIME
pub mod Times
-- the time of a line of a log
pub mod LineTimes
-- the lines of a listing, each with its module
pub mod ListingLines
-- the grammar of the file
pub mod Grammar
-- how it is read, part by part
pub mod Readings
-- what a change makes of a listing
pub mod Changes
-- the listing at a time
pub mod ListingsAt
