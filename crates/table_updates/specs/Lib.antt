-- The definitions of this crate.
-- what an update makes of a table, and why one is refused; the table after a list of updates
pub mod Updates
