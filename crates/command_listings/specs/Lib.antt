-- The definitions of this crate, in the order in which to read them.
-- the lines that say what is noted of listings and of a log
pub mod NoteTexts
-- what an engine returns that reads listings, and then writes a text about them
pub mod GivenAnswers
-- which lines of a log one listing of a history names
pub mod LineRuns
-- what is noted of a log after its end
pub mod LogNotes
-- whether a function of the kernel itself has a size
pub mod Sizes
-- how the addresses of a log are answered
pub mod LogAnswers
-- which names symbols may have
pub mod NameFilters
-- the links of symbols by the numbers of their names
pub mod KernelNames
-- what is known of the symbols that a log is answered from
pub mod LogIndexes
-- what is written for a log, and noted of its listings
pub mod Annotations
-- a log whose lines are each named by the listing at its time
pub mod TimedLogs
-- what is written for a log by a history
pub mod HistoryAnnotations
-- a log that is annotated by the offset that it says itself
pub mod OwnOffsets
-- likewise by a history
pub mod HistoryOffsets
-- why listings that are read again give no names
pub mod NoNames
-- what is read of a log that lasts, and of its listings
pub mod LastingLogs
-- what is written for a log that lasts, whose listings are read again
pub mod Following
-- what is written of listings that are checked
pub mod Checks
-- what the names of a command line ask for
pub mod AskedNames
-- the symbols of a listing that a catalog keeps, with their ends
pub mod KeptSymbols
-- the lines that are written for names
pub mod AddressTexts
-- what is written for names that are asked for
pub mod Addresses
