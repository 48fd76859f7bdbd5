-- how the addresses of a log are answered
pub mod Answering
-- the lines of a log
pub mod Lines
-- the words of a line, and the addresses that words are
pub mod Words
-- the place of an address word in its line
pub mod Places
-- how the address words of a line are taken
pub mod TakenWords
-- the name that a log says of an address, after it
pub mod SaidNames
-- which reading of an address the log names, and what is inserted
pub mod OwnNames
-- what a log says itself of the place of its kernel
pub mod KernelOffsets
-- what it says of the kernel that wrote it: its place, and the sizes of its functions
pub mod KernelReports
-- the names that a log has itself, and how many there are
pub mod LogNames
-- what is carried from line to line, and a log with the answers' texts, put word by word
pub mod AnnotatedLogs
-- what was read of a log, and what was written for it
pub mod Annotation
-- lines that nothing names, and which lines ask for names
pub mod Unnamed
