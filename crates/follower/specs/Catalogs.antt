-- Catalogs by generation and by stamp.
use Rattle.std.specs.Prelude.{◌≡◌, ℕ, ◌+◌, ◌≤◌, ◌<◌, List, [], ◌∷◌, All, IfSome, drop}
use Rattle.std.specs.Prelude.{Option, Some, None}
use Rattle.std.specs.List.Sorted.{IsNonDecreasingBy}
use Rattle.modules.specs.Entries.{CatalogEntries}
use Rattle.modules.specs.LastBegun.{last_begun}
use Rattle.follower.specs.declared.catalogs.DatedCatalog.{DatedCatalog}
use Rattle.follower.specs.declared.catalogs.Moment.{Moment}
use Rattle.follower.specs.declared.catalogs.Moment.TheVariants.{Generation, Stamp}

-- the number of a moment, by its clock
abbrev pub number_of : Moment → ℕ
number_of (Generation generation) = generation
number_of (Stamp at) = at

-- the moment of this number by the clock of another
abbrev pub at_number : Moment → ℕ → Moment
at_number (Generation _) number = Generation number
at_number (Stamp _) number = Stamp number

-- the number at which a catalog was shown, by the clock of a moment
abbrev pub start_by : Moment → DatedCatalog → ℕ
start_by (Generation _) d = d.previous + 1
start_by (Stamp _) d = d.since

-- the catalogs rise by generation, and their stamps do not fall
pub record AreInOrder (dated : List DatedCatalog) : Type 0 where
  pub generations : IsNonDecreasingBy (λ d. d.previous) dated
  pub stamps : IsNonDecreasingBy (λ d. d.since) dated

-- the last of the catalogs that were shown at or before the moment
abbrev pub standing_at : List DatedCatalog → Moment → Option DatedCatalog
standing_at dated moment = last_begun (start_by moment) (number_of moment) dated

-- the oldest catalog is gone, and the next one is current at the moment: at that and at each later
-- one of its clock the current catalog is as before
pub record ForgetsOldest (moment : Moment) (old new : List DatedCatalog) (tag : ℕ) : Type 0 where
  pub oldest : DatedCatalog
  pub gone : old ≡ oldest ∷ new
  pub told : tag ≡ oldest.tag
  pub same : (later : ℕ) → number_of moment ≤ later
      → standing_at new (at_number moment later) ≡ standing_at old (at_number moment later)

-- each catalog but the oldest was shown after the moment
abbrev pub AreAllNeeded : Moment → List DatedCatalog → Type 0
AreAllNeeded moment dated = All (λ d. number_of moment < start_by moment d) (drop 1 dated)

-- one catalog is forgotten, if the next one is current by the moment
abbrev pub Forgets : Moment → List DatedCatalog → List DatedCatalog → Option ℕ → Type 0
Forgets moment old new None = (new ≡ old) × AreAllNeeded moment old
Forgets moment old new (Some tag) = ForgetsOldest moment old new tag

-- the oldest catalog is gone, if there is one
abbrev pub DropsOldest : List DatedCatalog → List DatedCatalog → Option ℕ → Type 0
DropsOldest old new None = (old ≡ []) × (new ≡ [])
DropsOldest old new (Some tag) = (d : DatedCatalog) × (old ≡ d ∷ new) × (tag ≡ d.tag)

-- each catalog is current from a generation on that was reached, and one that is current at such a
-- generation is right there
pub record EachStands (IsRight : ℕ → CatalogEntries → Type 0) (now : ℕ)
    (dated : List DatedCatalog) : Type 0 where
  pub reached : All (λ d. d.previous < now) dated
  pub right : (generation : ℕ) → generation ≤ now
      → IfSome (standing_at dated (Generation generation)) (λ d. IsRight generation d.catalog)
