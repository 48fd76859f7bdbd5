-- the words that the proofs of this crate use
mod Words
-- the texts of words
mod WordLemmas
-- symbols that a search by address leaves out, and the one that is found
mod AliasLemmas
-- marks that are put, those that stay, and names without one
mod FilterLemmas
-- whether an address is below all regions of a catalog
mod RangeLemmas
-- symbols that are gone through by the numbers of their names
mod NumberLemmas
-- from what came of a log to what the engine returns
mod AnnotationLemmas
-- which readers failed of a log that is read whole
mod OwnOffsetLemmas
-- what is read of a log that lasts, and of its listings, turn by turn
pub mod ReadLemmas
-- blocks of a log that are read, with the listings behind each, and written
mod FollowingLemmas
-- the kept symbols of the names that words ask for, symbol by symbol
mod SoughtLemmas
-- from what was written about listings to what the engine returns
mod GivenLemmas
-- where the last byte of its kind stands, and where a symbol that was found ends
mod AskedNameLemmas
-- which lines a listing may name, line by line
mod RunLemmas
-- runs of a log that are named, and what is read and written for them
mod TimedLemmas
