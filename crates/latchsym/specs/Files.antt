-- The files of a job: what these hold, and the readers that are opened on them.
use Rattle.std.specs.Prelude.{◌≡◌, ℕ, List, codes, Option, Some, None, if◌then◌else◌}
use Rattle.std.specs.Option.{option_map}
use Rattle.std.specs.Str.{bytes_eq}
use Rattle.clap.specs.Words.{Text}
use Rattle.texts.specs.declared.counted.Counted.{Counted}
use Rattle.texts.specs.Counted.{device_of, failures_of}
use Rattle.command_line.specs.Requests.{input_of}
use Rattle.latchsym.specs.declared.jobs.OpenedJob.{OpenedJob}
use Rattle.latchsym.specs.declared.jobs.OpenedJob.TheVariants as opened
use Rattle.command_line.specs.declared.requests.Job.{Job}
use Rattle.command_line.specs.declared.requests.Job.TheVariants as job
use Rattle.command_listings.specs.declared.sources.ListingFiles.{ListingFiles}
use Rattle.command_listings.specs.declared.sources.SymbolSource.{SymbolSource}
use Rattle.command_listings.specs.declared.sources.SymbolSource.TheVariants.{History, Listing}
use Rattle.command_parts.specs.OpenedCatalogs.{given_of}
use Rattle.command_parts.specs.declared.opened_catalogs.ListingReaders.{ListingReaders}
use Rattle.listing.specs.Opening.{Given}

-- what the file of each name holds, if that is known
abbrev pub FileTexts : Type 0
FileTexts = Text → Option (List ℕ)

-- the reader gives this, if it is known, and no call of it was made that failed
abbrev pub IsNew : {F : Type 0} → (F → Option (List ℕ)) → Option (List ℕ) → Counted F → Type 0
IsNew remaining text reader =
    (remaining (device_of reader) ≡ text) × (failures_of reader ≡ 0)

-- the reader gives what the file of this name holds
abbrev pub IsOpened : {F : Type 0} → (F → Option (List ℕ)) → FileTexts → Text → Counted F → Type 0
IsOpened remaining file_text name reader = IsNew remaining (file_text name) reader

-- there is a reader if a file is named, and it gives what that file holds
abbrev pub IsOpenedIfGiven : {F : Type 0} → (F → Option (List ℕ)) → FileTexts
    → Option Text → Option (Counted F) → Type 0
IsOpenedIfGiven remaining file_text None None = Unit {0}
IsOpenedIfGiven remaining file_text (Some name) (Some reader) =
    IsOpened remaining file_text name reader
IsOpenedIfGiven remaining file_text _ _ = ⊥

-- what the file of a listing holds, if one is named
abbrev pub text_named : FileTexts → Option Text → Option (Option (List ℕ))
text_named file_text None = Some None
text_named file_text (Some name) = option_map (λ text. Some text) (file_text name)

-- what the files of listings hold, if that is known
abbrev pub given_by : FileTexts → ListingFiles → Option Given
given_by file_text files =
    given_of (text_named file_text (option_map (λ f. f.now) files.modules))
    (file_text files.kallsyms.now)
    (text_named file_text (option_map (λ f. f.now) files.regions))

-- what the names of files of addresses, of scripts, of logs and of histories hold; `-` is the
-- standard input
abbrev pub or_standard : Option (List ℕ) → FileTexts → FileTexts
or_standard standard file_text name = if bytes_eq name (codes "-") then standard else file_text name

-- these files are read as the listings
pub record AreListingFiles {F : Type 0} (remaining : F → Option (List ℕ)) (file_text : FileTexts)
    (files : ListingFiles) (r : ListingReaders F F F) : Type 0 where
  pub modules : IsOpenedIfGiven remaining file_text (option_map (λ f. f.now) files.modules)
      r.modules
  pub kallsyms : IsOpened remaining file_text files.kallsyms.now r.kallsyms
  pub regions : IsOpenedIfGiven remaining file_text (option_map (λ f. f.now) files.regions)
      r.regions

-- the readers are of the listings of a request, or of its history alone
abbrev pub AreSourceFiles : {F : Type 0} → (F → Option (List ℕ)) → FileTexts → Option (List ℕ)
    → ListingFiles → SymbolSource → ListingReaders F F F → Type 0
AreSourceFiles remaining file_text standard files Listing r =
    AreListingFiles remaining file_text files r
AreSourceFiles remaining file_text standard files (History time) r =
    IsOpened remaining (or_standard standard file_text) files.kallsyms.now r.kallsyms

-- the job is the one that is opened, over the readers of its own files
abbrev pub IsOpenedFor : {F : Type 0} → (F → Option (List ℕ)) → FileTexts → Option (List ℕ) → Job
    → OpenedJob F → Type 0
IsOpenedFor remaining file_text standard (job.Trace file) (opened.Trace r) =
    IsOpened remaining file_text file.now r
IsOpenedFor remaining file_text standard (job.Steps file) (opened.Steps r) =
    IsOpened remaining file_text file.now r
IsOpenedFor remaining file_text standard (job.Request q) (opened.Request o r input) =
    (o.now ≡ q) × AreSourceFiles remaining file_text standard q.sources.files q.sources.symbols r
    × IsOpenedIfGiven remaining (or_standard standard file_text) (input_of q.subcommand) input
IsOpenedFor remaining file_text standard _ _ = ⊥
