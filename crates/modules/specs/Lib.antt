-- The definitions of this crate, in the order in which to read them.
-- what the lines of the listings say
pub mod Listed
-- what a listing says of a symbol after its address
pub mod SymbolTexts
-- the parts of a module
pub mod Parts
-- what the lines of the listings say
pub mod Lines
-- regions of addresses, from a first address up to an end that is excluded
pub mod Regions
-- the regions of the modules of the listing
pub mod Placed
-- which lines of the listing of modules are accepted
pub mod Accepted
-- what a catalog holds
pub mod Entries
-- which symbols and region lines are kept, and in which module
pub mod Kept
-- modules made of their places and lists of symbols
pub mod Building
-- names of modules
pub mod Names
-- the catalog of the listings, and what is asked of it
pub mod Catalogs
-- the symbols around an address, in a list that is in no order
pub mod Around
-- symbols by their address and their name
pub mod AtAddress
-- the symbol that an address belongs to
pub mod Found
-- whose an address is, by a listing of symbols alone
pub mod Owners
-- the modules of such a listing, and their regions
pub mod FromSymbols
-- a listing of symbols in the parts that catalogs share, and what a change makes of it
pub mod ListingParts
-- the first addresses of a module's regions, by their parts
pub mod Starts
-- what a load, an unload, and the end of a module's start change
pub mod Loads
-- which of several catalogs is current at a time
pub mod LastBegun
-- an item for each region of a catalog, and the item of an address
pub mod Items
-- from a name to the symbols of all modules that have it
pub mod SymbolNames
-- From here on how the crate keeps all this: no public clause cites it.
-- marks, and the regions that they make
pub mod Marks
-- modules whose regions marks make
pub mod MarkedModules
-- the marks of the lines of a listing, by the numbers of their modules
pub mod LineMarks
-- names that are found
pub mod FoundNames
-- lines of symbols that have the name of their module by the number of a run
pub mod Runs
-- the lines of modules in runs that catalogs share
pub mod SharedRuns
-- what has a name, in the order of names
pub mod ByName
-- the region lines by name
pub mod Grouped
-- modules in their regions
pub mod PlacedModules
-- which modules are accepted so far
pub mod Admissions
-- symbols in the lists of the modules that keep them
pub mod Gathering
-- symbols by rising address
pub mod Index
-- what a table of symbols keeps
pub mod SymbolTables
-- what a module holds
pub mod Modules
-- what a catalog keeps
pub mod Sound
-- the items of all regions by rising first address, and the catalog that has them
pub mod RegionIndexes
-- the addresses of the symbol that was found last, and what a finder keeps
pub mod Again
