-- the words of all proofs of this crate
mod Words
-- numbers of some decimal digits
pub mod TimeLemmas
-- where the `.` of a time can be
pub mod PointLemmas
-- lines that are cut off
pub mod LineLemmas
-- lines whose first byte begins no word of a history
pub mod WordLemmas
-- names that are collected, line by line
pub mod NameLemmas
-- times that do not fall
pub mod OrderLemmas
-- the listing at a time as the last that began by then
pub mod DatedLemmas
-- parts, and what a listing is after them
pub mod PartLemmas
