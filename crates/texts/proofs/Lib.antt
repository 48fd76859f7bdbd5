-- the words of all proofs of this crate
mod Words
-- the digits of an address
pub mod HexadecimalLemmas
-- texts that are said one after the other
pub mod OutputLemmas
-- what a device holds after a text was delivered
pub mod FlushedLemmas
-- what the first place of a byte says of lines and of words
pub mod LineCutLemmas
-- what the digits that are left say of a numeral
pub mod NumberLemmas
-- eight digits that are all `f`
pub mod UpperDigitLemmas
-- what is said of the bytes of a text, where these are all that its reader had
pub mod ReadLemmas
-- a table of digits
pub mod DigitLemmas
-- entries that lines say one after another
pub mod SaidLemmas
-- what the entries of lines say of each of them
pub mod UnderstoodLemmas
