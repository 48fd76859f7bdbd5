-- the words of all proofs of this crate
mod Words
-- blanks that a line of a file of addresses ends in
pub mod BlankEndLemmas
-- lines of a listing of symbols
pub mod SymbolLineLemmas
-- lines that are taken, or skipped for a cause, one after the other
pub mod SkippingLemmas
-- what is read of a listing of modules
pub mod ModuleLineLemmas
-- what a line of a listing of regions is
pub mod RegionLineLemmas
-- where the first line of a text ends, after its first tab
pub mod TabLemmas
-- what the counts of a listing say of how it looks
pub mod LookLemmas
-- where a note on a listing does not apply
pub mod ListingNoteLemmas
-- modules that a catalog has by name, and why it lacks a listed one
pub mod OverlapLemmas
