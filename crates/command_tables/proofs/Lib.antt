-- the words of all proofs of this crate
mod Words
-- what updates that insert items leave in a table
mod LoadLemmas
-- a world for the table of a catalog, from its opening on
mod WorldOpeningLemmas
-- the same answer, where more is known of what was read
mod InputLemmas
-- from the lines of a script to its text
mod RunLemmas
