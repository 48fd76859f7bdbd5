-- What the call returns that opens what a change leaves.
use Rattle.std.specs.Prelude.{◌≡◌, ℕ, ◌⊎◌, false, List, Option, Some, None}
use Rattle.histories.specs.Changes.{bad_line_of, is_among, is_named}
use Rattle.listing.specs.Opening.{symbols_of}
use Rattle.modules.specs.ListingParts.{changed_lines, changed_parts, IsOfSymbols, ListingParts}
use Rattle.modules.specs.ListingParts.{parts_of}
use Rattle.modules.specs.Listed.{BoundNames, ListedSymbol}
use Rattle.modules.specs.declared.catalog.BuildCounts.{BuildCounts}
use Rattle.latchsym_ffi.specs.HeldCatalogs.{HeldCatalog}

-- Of each listing that had these parts, this is the catalog of what the change leaves: without the
-- lines of the modules that the change names, and with its own lines behind the others.
pub record IsChanged (change : List ℕ) (p : ListingParts) (c : HeldCatalog) : Type 0 where
  pub named : List (List ℕ)
  pub names : is_among named ≡ is_named change
  pub listing : c.listing ≡ Some (changed_parts named (symbols_of false change) p)
  pub catalog : (names : Option BoundNames) (lines : List ListedSymbol)
      → p ≡ parts_of names lines → (n : BuildCounts)
      × IsOfSymbols names (changed_lines named (symbols_of false change) lines) c.entries n

-- a listing of symbols alone was changed so, by a change whose lines are all understood
abbrev pub Changes : List ℕ → Option ListingParts → HeldCatalog → Type 0
Changes change None c = ⊥
Changes change (Some p) c = (bad_line_of change ≡ None) × IsChanged change p c

-- why a change is refused: there is a listing of modules, or else a line is not understood, or else
-- memory ran out
abbrev pub RefusesChange : List ℕ → Option ListingParts → ℕ → ℕ → Type 0
RefusesChange change None bad result = result ≡ 101
RefusesChange change (Some p) bad result =
    ((result ≡ 15) × (bad_line_of change ≡ Some bad))
    ⊎ ((result ≡ 7) × (bad_line_of change ≡ None))
