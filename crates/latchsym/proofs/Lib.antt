-- the words that the proofs of this crate use
mod Words
-- what is known of a log before it is followed
mod FileTextLemmas
-- what comes of a log
mod LogOutcomeLemmas
