-- The definitions of this crate, in the order in which to read them.
-- a follower that was shown what a history says
pub mod SameNames
