-- The definitions of this crate, in the order in which to read them.
-- the table of a catalog's regions, its answer for an address, and a world that holds it
pub mod CatalogTables
-- the lines that a lookup of addresses writes
pub mod LookupTexts
-- what the listings of a job and the file after them say
pub mod Inputs
-- what is written for the listings and the addresses that are asked for
pub mod Lookups
-- what the lines of a script have each writer and each reader do
pub mod Assignments
-- the lines that a run of a script writes
pub mod RunTexts
-- what is written for a script and the listings that it is run over
pub mod Runs
