-- The job that the words of a command line ask for.
use Rattle.std.specs.Prelude.{◌≡◌, ◌≢◌, ◌⊎◌, ◌&&◌, ℕ, Bool, true, false, nat_eq, List, [], ◌∷◌}
use Rattle.std.specs.Prelude.{length, map}
use Rattle.std.specs.Prelude.{Option, Some, None, Result, Ok, Err, codes, find, is_none, is_some}
use Rattle.std.specs.Prelude.{not, slice_get}
use Rattle.std.specs.Prelude.{unwrap_or, if◌then◌else◌}
use Rattle.std.specs.Global.{Vec}
use Rattle.std.specs.List.{filter_map, list_any, starts_with}
use Rattle.std.specs.Option.{option_map, option_map_or, option_or}
use Rattle.std.specs.Str.{bytes_eq}
use Rattle.clap.specs.Words.{IsAmong, Row, Text, all_of, fault_of, first_of, found_of, kind_of}
use Rattle.clap.specs.Words.{rows_of, subcommand_of}
use Rattle.clap.specs.declared.parser.matches.ArgMatches.{ArgMatches}
use Rattle.clap.specs.declared.error.Error.{Error}
use Rattle.clap.specs.declared.error.kind.ErrorKind.TheVariants as kind
use Rattle.command_parts.specs.declared.forms.AnswerForm.{AnswerForm}
use Rattle.listing.specs.declared.address_rules.Callers.{Callers}
use Rattle.listing.specs.declared.address_rules.Callers.TheVariants.{ByPlace, Every, Never}
use Rattle.latch_table.specs.Limits.{most_readers}
use Rattle.texts.specs.Numbers.{between, number_of}
use Rattle.histories.specs.Times.{time_of}
use Rattle.listing.specs.Addresses.{address_of_text}
use Rattle.modules.specs.Listed.{BoundNames}
use Rattle.command_line.specs.CommandLine.{ArgumentRow, Beside, arguments_of, latchsym_app}
use Rattle.command_line.specs.declared.requests.Address.{Address}
use Rattle.command_listings.specs.declared.annotations.Annotate.{Annotate}
use Rattle.command_listings.specs.declared.annotations.LogReading.{LogReading}
use Rattle.command_listings.specs.declared.annotations.LogReading.TheVariants.{Blocks, Followed}
use Rattle.command_listings.specs.declared.annotations.LogReading.TheVariants.{Whole}
use Rattle.command_line.specs.declared.requests.Job.{Job}
use Rattle.command_line.specs.declared.requests.Job.TheVariants as job
use Rattle.command_line.specs.declared.requests.JobFault.{JobFault}
use Rattle.command_line.specs.declared.requests.JobFault.TheVariants.{BadAddress, BadEnd, BadOffset}
use Rattle.command_line.specs.declared.requests.JobFault.TheVariants.{BadReaders, BadTime, Conflict}
use Rattle.command_line.specs.declared.requests.JobFault.TheVariants.{CommandLine}
use Rattle.command_line.specs.declared.requests.JobFault.TheVariants.{FollowedByOwnOffset}
use Rattle.command_line.specs.declared.requests.JobFault.TheVariants.{NoAddress, NoJob, OutOfMemory}
use Rattle.command_listings.specs.declared.sources.ListingFiles.{ListingFiles}
use Rattle.command_listings.specs.declared.sources.SymbolSource.{SymbolSource}
use Rattle.command_listings.specs.declared.sources.SymbolSource.TheVariants.{History, Listing}
use Rattle.command_line.specs.declared.requests.Lookup.{Lookup}
use Rattle.command_line.specs.declared.requests.Record.{Record}
use Rattle.command_line.specs.declared.requests.Request.{Request}
use Rattle.command_line.specs.declared.requests.Run.{Run}
use Rattle.command_line.specs.declared.requests.Subcommand.{Subcommand}
use Rattle.command_line.specs.declared.requests.Subcommand.TheVariants as sub

-- ---- the values of a subcommand, by the names of its arguments

-- those that a parse found
abbrev pub rows_in : ArgMatches → List Row
rows_in found = rows_of (found_of found)

-- all values of an argument
abbrev pub values_in : Text → List Row → List Text
values_in id rows = unwrap_or (all_of id rows) []

-- a flag is given
abbrev pub has_flag : Text → List Row → Bool
has_flag id rows = option_map_or (λ text. bytes_eq text (codes "true")) (first_of id rows) false

-- ---- options that do not go together

-- the argument of the row is given
abbrev pub is_present : List Row → ArgumentRow → Bool
is_present rows row =
    if is_some row.rule.action then has_flag row.rule.id rows
    else is_some (first_of row.rule.id rows)

-- what is said of the other argument, if it is so of it
abbrev pub said_if : (Text → Bool) → Option Beside → Option Text
said_if is_so None = None
said_if is_so (Some b) = if is_so b.other then Some b.message else None

-- what is wrong with the argument of the row, if it is given: the flag that excludes it is given
-- too, or the option that it repeats, or the option that it needs is not
abbrev pub conflict_of : List Row → ArgumentRow → Option Text
conflict_of rows row =
    if is_present rows row
    then option_or (said_if (λ id. has_flag id rows) row.excluded_by)
    (option_or (said_if (λ id. is_some (first_of id rows)) row.instead_of)
    (said_if (λ id. is_none (first_of id rows)) row.needs))
    else None

-- the first of what is wrong with the options of the command of this name beside one another
abbrev pub conflict_in : Text → List Row → Option Text
conflict_in name rows = slice_get (filter_map (conflict_of rows) (arguments_of name)) 0

-- this is what is wrong with them
abbrev pub IsConflictIn : Text → List Row → JobFault → Type 0
IsConflictIn name rows (Conflict message) = conflict_in name rows ≡ Some message.now
IsConflictIn name rows _ = ⊥

-- ---- the listings

-- the file that is named for the symbols: for a history, as a word of its own, or as the value of
-- an option
abbrev pub symbols_in : List Row → Option Text
symbols_in rows =
    option_or (option_or (first_of (codes "history") rows) (first_of (codes "listing") rows))
    (first_of (codes "kallsyms") rows)

-- the files of the listings; the symbols are the kernel's own if no file is named
pub record AreFilesIn (rows : List Row) (files : ListingFiles) : Type 0 where
  pub modules : option_map (λ f. f.now) files.modules ≡ first_of (codes "modules") rows
  pub kallsyms : files.kallsyms.now ≡ unwrap_or (symbols_in rows) (codes "/proc/kallsyms")
  pub regions : option_map (λ f. f.now) files.regions ≡ first_of (codes "regions") rows

-- the time that a word is, or none if no word is given
abbrev pub time_in : Option Text → Option (Option ℕ)
time_in None = Some None
time_in (Some word) = option_map (λ time. Some time) (time_of word)

-- this is the time that is given, or no time is
abbrev pub IsTimeIn : List Row → Option ℕ → Type 0
IsTimeIn rows time = time_in (first_of (codes "at") rows) ≡ Some time

-- this word is given for a time, and is none
pub record HasBadTime (rows : List Row) (word : Text) : Type 0 where
  pub given : first_of (codes "at") rows ≡ Some word
  pub bad : time_of word ≡ None

-- the file of the symbols has a history if one is named, which is asked at this time
abbrev pub IsSourceIn : List Row → SymbolSource → Type 0
IsSourceIn rows Listing = is_some (first_of (codes "history") rows) ≡ false
IsSourceIn rows (History time) =
    (is_some (first_of (codes "history") rows) ≡ true) × IsTimeIn rows time

-- the word looks like an address, and not like the name of a symbol
abbrev pub is_like_address : Text → Bool
is_like_address word = starts_with nat_eq word (codes "0x")

-- the names after `--kernel`, if it is given
abbrev pub bounds_in : List Text → Option (Option BoundNames)
bounds_in [] = Some None
bounds_in (start ∷ end ∷ []) = Some (Some (record { start = start; end = end }))
bounds_in _ = None

-- no bounds are given, or their end does not look like an address
abbrev pub are_named : Option BoundNames → Bool
are_named kernel = not (option_map_or (λ names. is_like_address names.end) kernel false)

-- these are the bounds that are given
pub record AreBoundsIn (rows : List Row) (kernel : Option BoundNames) : Type 0 where
  pub given : bounds_in (values_in (codes "kernel") rows) ≡ Some kernel
  pub named : are_named kernel ≡ true

-- the second of two names is this word, which looks like an address
pub record HasBadEnd (words : List Text) (word : Text) : Type 0 where
  pub start : Text
  pub two : words ≡ start ∷ word ∷ []
  pub bad : is_like_address word ≡ true

-- ---- what the subcommands ask for

-- the number that a word is, or 0 if none is given
abbrev pub offset_of : Option Text → Option ℕ
offset_of None = Some 0
offset_of (Some word) = number_of word

-- this is the offset that is given
abbrev pub IsOffsetIn : List Row → ℕ → Type 0
IsOffsetIn rows offset = offset_of (first_of (codes "offset") rows) ≡ Some offset

-- this word is given for an offset, and is no number
pub record HasBadOffset (rows : List Row) (word : Text) : Type 0 where
  pub given : first_of (codes "offset") rows ≡ Some word
  pub bad : number_of word ≡ None

-- the offset that a log says itself is asked for
abbrev pub is_own_offset : List Row → Bool
is_own_offset rows =
    option_map_or (λ word. bytes_eq word (codes "auto")) (first_of (codes "offset") rows) false

-- this is the offset that is given for a log, or 0 in place of its own
abbrev pub IsLogOffsetIn : List Row → ℕ → Type 0
IsLogOffsetIn rows offset =
    (if is_own_offset rows then Some 0 else offset_of (first_of (codes "offset") rows))
    ≡ Some offset

-- the form that these values ask for
abbrev pub form_in : List Row → AnswerForm
form_in rows = record {
  json = has_flag (codes "json") rows;
  counts = not (has_flag (codes "no-counts") rows);
}

-- the word is no address
abbrev pub is_no_address : Text → Bool
is_no_address word = is_none (address_of_text word)

-- no address is given in any place
abbrev pub lacks_addresses : List Row → Bool
lacks_addresses rows =
    nat_eq (length (values_in (codes "address") rows)) 0
    && is_none (first_of (codes "addresses") rows)

-- the words of the command line are these addresses
pub record AreNumbersIn (rows : List Row) (numbers : Vec ℕ) : Type 0 where
  pub none_bad : find is_no_address (values_in (codes "address") rows) ≡ None
  pub items : numbers.items ≡ filter_map address_of_text (values_in (codes "address") rows)

-- some address is given, and these are what the values say of them
pub record IsLookupIn (rows : List Row) (lookup : Lookup) : Type 0 where
  pub some : lacks_addresses rows ≡ false
  pub addresses : AreNumbersIn rows lookup.addresses
  pub file : option_map (λ f. f.now) lookup.file ≡ first_of (codes "addresses") rows
  pub callers : lookup.rule.callers ≡ has_flag (codes "callers") rows
  pub lower : IsOffsetIn rows lookup.rule.offset
  pub form : lookup.form ≡ form_in rows

-- the number of readers that a word is, which are as many as one table may have
abbrev pub readers_of : Text → Option ℕ
readers_of word = between 1 most_readers (number_of word)

-- modules are listed, and this many readers run this script
pub record IsRunIn (rows : List Row) (run : Run) : Type 0 where
  pub word : Text
  pub listed : is_some (first_of (codes "modules") rows) ≡ true
  pub given : first_of (codes "readers") rows ≡ Some word
  pub readers : readers_of word ≡ Some run.readers
  pub script : first_of (codes "script") rows ≡ Some run.script.now

-- this word is given for a number of readers, and is none
pub record HasBadReaders (rows : List Row) (word : Text) : Type 0 where
  pub given : first_of (codes "readers") rows ≡ Some word
  pub bad : readers_of word ≡ None

-- which addresses of a log are taken as return addresses
abbrev pub callers_in : List Row → Callers
callers_in rows =
    if has_flag (codes "callers") rows then Every
    else if has_flag (codes "exact") rows then Never
    else ByPlace

-- how a log is read
abbrev pub reading_in : List Row → LogReading
reading_in rows =
    if is_own_offset rows then Whole
    else if has_flag (codes "follow") rows then Followed
    else Blocks

-- a log is followed that is read as a whole
abbrev pub is_followed_whole : List Row → Bool
is_followed_whole rows = is_own_offset rows && has_flag (codes "follow") rows

-- the log, which is the standard input if none is named, how its addresses are taken, and how it is
-- read
pub record IsAnnotateIn (rows : List Row) (annotate : Annotate) : Type 0 where
  pub callers : annotate.rule.callers ≡ callers_in rows
  pub lower : IsLogOffsetIn rows annotate.rule.offset
  pub reading : annotate.reading ≡ reading_in rows
  pub one : is_followed_whole rows ≡ false
  pub log : annotate.log.now ≡ unwrap_or (first_of (codes "log") rows) (codes "-")

-- the names, and how their addresses are written
pub record IsAddressIn (rows : List Row) (address : Address) : Type 0 where
  pub names : map (λ n. n.now) address.names.items ≡ values_in (codes "name") rows
  pub json : address.form.json ≡ has_flag (codes "json") rows
  pub higher : IsOffsetIn rows address.form.higher

-- the events that are recorded, and whether that is appended to a history
pub record IsRecordIn (rows : List Row) (r : Record) : Type 0 where
  pub appended : r.is_appended ≡ has_flag (codes "append") rows
  pub events : first_of (codes "events") rows ≡ Some r.events.now

-- a subcommand of this name asks for this
abbrev pub IsSubcommandIn : Text → List Row → Subcommand → Type 0
IsSubcommandIn name rows (sub.Lookup lookup) = (name ≡ codes "lookup") × IsLookupIn rows lookup
IsSubcommandIn name rows (sub.Run run) = (name ≡ codes "run") × IsRunIn rows run
IsSubcommandIn name rows (sub.Annotate annotate) =
    (name ≡ codes "annotate") × IsAnnotateIn rows annotate
IsSubcommandIn name rows sub.Check = name ≡ codes "check"
IsSubcommandIn name rows (sub.Address address) =
    (name ≡ codes "address") × IsAddressIn rows address
IsSubcommandIn name rows (sub.Record r) = (name ≡ codes "record") × IsRecordIn rows r

-- ---- the job

-- a subcommand of this name asks for this over these listings
pub record IsRequestIn (name : Text) (rows : List Row) (request : Request) : Type 0 where
  pub files : AreFilesIn rows request.sources.files
  pub symbols : IsSourceIn rows request.sources.symbols
  pub kernel : AreBoundsIn rows request.sources.kernel
  pub subcommand : IsSubcommandIn name rows request.subcommand

-- the trace in the file of this name is asked for, and whether its steps are to be written
pub record IsTraceIn (rows : List Row) (name : Text) (told : Bool) : Type 0 where
  pub file : first_of (codes "file") rows ≡ Some name
  pub steps : has_flag (codes "steps") rows ≡ told

-- the job is what a subcommand of this name asks for
abbrev pub IsJobIn : Text → List Row → Job → Type 0
IsJobIn name rows (job.Trace file) = (name ≡ codes "trace") × IsTraceIn rows file.now false
IsJobIn name rows (job.Steps file) = (name ≡ codes "trace") × IsTraceIn rows file.now true
IsJobIn name rows (job.Request request) = IsRequestIn name rows request

-- the words that a subcommand of this name cannot do without
abbrev pub needed_by : Text → List Text
needed_by name =
    if bytes_eq name (codes "trace") then codes "file" ∷ []
    else if bytes_eq name (codes "run")
    then codes "modules" ∷ codes "readers" ∷ codes "script" ∷ []
    else if bytes_eq name (codes "record") then codes "events" ∷ []
    else []

-- the names of the subcommands
abbrev pub subcommand_names : List Text
subcommand_names =
    codes "trace" ∷ codes "lookup" ∷ codes "run" ∷ codes "annotate" ∷ codes "check"
    ∷ codes "address" ∷ codes "record" ∷ []

-- there is no such subcommand, or it lacks a word that it needs, or there are bounds that are not
-- two
abbrev pub IsIncomplete : Text → List Row → Type 0
IsIncomplete name rows =
    (list_any (bytes_eq name) subcommand_names ≡ false)
    ⊎ (list_any (λ id. is_none (first_of id rows)) (needed_by name) ≡ true)
    ⊎ (bounds_in (values_in (codes "kernel") rows) ≡ None)

-- what may be wrong with the values of a subcommand of this name
abbrev pub HasBadValue : Text → List Row → JobFault → Type 0
HasBadValue name rows OutOfMemory = Unit {0}
HasBadValue name rows (BadEnd word) = HasBadEnd (values_in (codes "kernel") rows) word.now
HasBadValue name rows (BadTime word) = HasBadTime rows word.now
HasBadValue name rows (BadOffset word) =
    HasBadOffset rows word.now
    × ((bytes_eq name (codes "annotate") && is_own_offset rows) ≡ false)
HasBadValue name rows FollowedByOwnOffset =
    (name ≡ codes "annotate") × (is_followed_whole rows ≡ true)
HasBadValue name rows NoAddress = (name ≡ codes "lookup") × (lacks_addresses rows ≡ true)
HasBadValue name rows (BadAddress word) =
    (name ≡ codes "lookup")
    × (find is_no_address (values_in (codes "address") rows) ≡ Some word.now)
HasBadValue name rows (BadReaders word) =
    (name ≡ codes "run") × HasBadReaders rows word.now
HasBadValue name rows NoJob = IsIncomplete name rows
HasBadValue name rows _ = ⊥

-- a part of what a subcommand of this name asks for, or what is wrong with its values
abbrev pub Gives : {A : Type 0} → (List Row → A → Type 0) → Text → List Row → Result A JobFault
    → Type 0
Gives Is name rows (Ok part) = Is rows part
Gives Is name rows (Err fault) = HasBadValue name rows fault

-- The answer to a subcommand of this name, with these values. Options that do not go together are
-- reported before a wrong value.
abbrev pub AnswersSubcommand : Text → List Row → Result Job JobFault → Type 0
AnswersSubcommand name rows (Ok job) = (conflict_in name rows ≡ None) × IsJobIn name rows job
AnswersSubcommand name rows (Err fault) =
    IsConflictIn name rows fault
    ⊎ ((conflict_in name rows ≡ None) × HasBadValue name rows fault)

-- the answer if a parse entered this subcommand
abbrev pub AnswersMatches : Option (Text × List Row) → Result Job JobFault → Type 0
AnswersMatches None result = result ≡ Err NoJob
AnswersMatches (Some (name, rows)) result = AnswersSubcommand name rows result

-- a parse that failed by this error
abbrev pub IsFaultOf : Error → JobFault → Type 0
IsFaultOf error OutOfMemory = kind_of error ≡ kind.OutOfMemory
IsFaultOf error (CommandLine e) = (e ≡ error) × (kind_of e ≢ kind.OutOfMemory)
IsFaultOf error _ = ⊥

-- the answer to words that the parser does not accept
abbrev pub IsUnparsed : List Text → Result Job JobFault → Type 0
IsUnparsed words (Err OutOfMemory) = Unit {0}
IsUnparsed words (Err (CommandLine e)) = IsAmong (kind_of e) (fault_of latchsym_app words)
IsUnparsed words _ = ⊥

-- The answer to these words. A job is returned only if the parser finds no fault in them, and is
-- what they say; a fault of the command line is one that the parser finds.
abbrev pub AnswersWords : List Text → Result Job JobFault → Type 0
AnswersWords words result =
    ((fault_of latchsym_app words ≡ [])
    × AnswersMatches (subcommand_of latchsym_app words) result)
    ⊎ IsUnparsed words result
