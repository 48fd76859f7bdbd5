-- the words that the proofs of this crate use
mod Words
-- what a parse by the program's command gives
mod ParseLemmas
-- words that are numbers, one after the other
mod AddressLemmas
-- options that do not go together, row after row
mod ConflictLemmas
