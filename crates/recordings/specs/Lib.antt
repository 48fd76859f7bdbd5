-- The definitions of this crate, in the order in which to read them.
-- an event
pub mod KernelEvents
-- what a line of ftrace says
pub mod Events
-- the lines of events as blocks come
pub mod EventLines
-- the lines of a listing by their modules
pub mod ModuleLines
-- what a history may have of a listing
pub mod ListingTexts
-- which modules have changed
pub mod Changes
-- the lines of a change
pub mod ChangeTexts
-- what is written of a block, and what is carried on
pub mod Recordings
-- what a history has of modules after events
pub mod Laws
-- what the engine reads and writes
pub mod Recorder
