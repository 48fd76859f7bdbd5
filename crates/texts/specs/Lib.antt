-- The definitions of this crate, in the order in which to read them.
-- what a clause reads of a counted reader, and how its count moves
pub mod Counted
-- the text of an address
pub mod Exact
-- what a clause reads of a writer whose calls return success or failure
pub mod Device
-- what is said to an output, and what its device takes of it
pub mod Output
-- the lines of a text and the words of a line
pub mod Lines
-- the numbers that words are
pub mod Numbers
-- what lines say, if each has to be understood
pub mod Said
-- what a text is, line by line
pub mod Understood
