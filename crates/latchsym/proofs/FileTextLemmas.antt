-- What is known of a log that lasts, by the readers that it is followed by.
use Rattle.latchsym.proofs.Words.{Bool, List, ℕ, Option, None}
use Rattle.std.specs.Prelude.{if◌then◌else◌}
use Rattle.texts.specs.Counted.{device_of}
use Rattle.texts.specs.declared.counted.Counted.{Counted}
use Rattle.command_parts.specs.OpenedCatalogs.{known_given}
use Rattle.command_parts.specs.declared.opened_catalogs.ListingReaders.{ListingReaders}
use Rattle.command_listings.specs.LastingLogs.{Seen}
use Rattle.command_listings.specs.declared.sources.ListingFiles.{ListingFiles}
use Rattle.latchsym.specs.Files.{FileTexts, given_by}

module _ {F : Type 0} (remaining : F → Option (List ℕ)) where
  abbrev pub seen_by : FileTexts → ListingFiles → ListingReaders F F F → Counted F → Bool → Seen
  seen_by file_text names l r is_read = record {
    events = None;
    left = remaining (device_of r);
    next =
        if is_read then given_by file_text names else known_given remaining remaining remaining l;
    later = given_by file_text names;
  }
