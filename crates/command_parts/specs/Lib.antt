-- The definitions of this crate, in the order in which to read them.
-- why a command failed, and what one came to that did not
pub mod Faults
-- values of JSON (RFC 8259)
pub mod Json
-- the lines that are written as JSON
pub mod JsonTexts
-- what is returned if files are read one after the other
pub mod Readings
-- the catalog that listings say, and what is noted of them
pub mod OpenedCatalogs
-- a history in place of a listing of symbols
pub mod HistoryFiles
