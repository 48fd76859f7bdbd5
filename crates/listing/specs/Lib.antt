-- The definitions of this crate, in the order in which to read them.
-- how an address is taken that a user gives
pub mod AddressRules
-- what is known of an address, and its text
pub mod Answers
-- lines that are taken, or skipped for a cause
pub mod Skipping
-- the lines of a listing of modules, in the form of /proc/modules
pub mod ModuleListing
-- the lines of a listing of symbols, in the form of /proc/kallsyms
pub mod SymbolListing
-- what a listing without a line of use looks like
pub mod Looks
-- listed modules that are not in the catalog
pub mod Overlaps
-- names that symbols have in the place of a module's
pub mod Owners
-- what is noted of such a listing
pub mod ListingNotes
-- what notes say that name nothing
pub mod NoteTexts
-- what a listing of regions says
pub mod RegionListing
-- what listings say: a catalog, how many of their lines are used, and what is noted of them
pub mod Opening
-- how many lines of listings are used and how many are not, by cause
pub mod Tallies
-- what a file of addresses says
pub mod Addresses
-- what a listing of symbols shows, and the kernel's base by it
pub mod KernelLines
