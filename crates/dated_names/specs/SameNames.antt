-- A follower that was shown what the listings of a history say, each at its time.
use Rattle.std.specs.Prelude.{◌≡◌, ℕ, List, [], ◌∷◌, Option, Some, None}
use Rattle.modules.specs.Entries.{CatalogEntries}
use Rattle.modules.specs.Listed.{BoundNames}
use Rattle.listing.specs.declared.listing_notes.ListingNotes.{ListingNotes}
use Rattle.histories.specs.Grammar.{HistoryPart}
use Rattle.histories.specs.ListingsAt.{DatedListing, before_all, dated_listings, listing_at}
use Rattle.command_parts.specs.HistoryFiles.{symbols_alone}
use Rattle.command_parts.specs.OpenedCatalogs.{IsCatalogOf}
use Rattle.follower.specs.Catalogs.{standing_at}
use Rattle.follower.specs.declared.catalogs.DatedCatalog.{DatedCatalog}
use Rattle.follower.specs.declared.catalogs.Moment.TheVariants.{Stamp}

module _ (kernel : Option BoundNames) where
  -- it is a catalog of the listing of symbols with this text alone
  abbrev pub IsOpenedOf : List ℕ → CatalogEntries → Type 0
  IsOpenedOf text c = (notes : ListingNotes) × IsCatalogOf kernel (symbols_alone text) c notes

  -- each catalog is of the listing that holds from its stamp on
  abbrev pub AreOpenedOf : List DatedListing → List DatedCatalog → Type 0
  AreOpenedOf [] [] = Unit {0}
  AreOpenedOf (l ∷ ls) (d ∷ ds) =
      (d.since ≡ l.since) × IsOpenedOf l.text d.catalog × AreOpenedOf ls ds
  AreOpenedOf _ _ = ⊥

  -- the follower was shown the listings of the history
  abbrev pub ShowsHistory : List HistoryPart → List DatedCatalog → Type 0
  ShowsHistory parts dated = AreOpenedOf (dated_listings [] parts) dated

  -- At a time the follower's catalog is of the history's listing. Before its first time the
  -- follower has none, and the history has the kernel itself alone.
  abbrev pub AgreeAt : List HistoryPart → ℕ → Option DatedCatalog → Type 0
  AgreeAt parts time (Some d) = IsOpenedOf (listing_at (Some time) parts) d.catalog
  AgreeAt parts time None = listing_at (Some time) parts ≡ before_all parts

  -- they agree at each time
  abbrev pub AgreeAlways : List HistoryPart → List DatedCatalog → Type 0
  AgreeAlways parts dated = (time : ℕ) → AgreeAt parts time (standing_at dated (Stamp time))
