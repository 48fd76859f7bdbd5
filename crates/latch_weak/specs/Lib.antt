-- The definitions of this crate, in the order in which to read them.
-- what the writer of a latch does, and the words after some of its stores
pub mod Works
-- what a writer has made so far
pub mod Recordings
-- which stores a write barrier orders before which
pub mod Barriers
-- what a reader must see
pub mod Views
-- the loads of an attempt, each of a store that the reader may see
pub mod Loads
-- an attempt of a reader whose view is kept in numbers
pub mod Readers
-- what is promised of attempts
pub mod Weak
-- what would be wrong without each of the barriers
pub mod Needed
