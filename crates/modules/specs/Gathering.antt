-- Symbols in the lists of the modules that keep them.
use Rattle.std.specs.Prelude.{◌≡◌, ◌≢◌, ℕ, ◌<◌, List, [], ◌++◌, length, filter, slice_index_or}
use Rattle.std.specs.Prelude.{Option, Some, None}
use Rattle.std.specs.List.{position_from}
use Rattle.std.specs.Str.{bytes_eq}
use Rattle.modules.specs.Accepted.{Accepted, names_of}
use Rattle.modules.specs.Entries.{SymbolEntry}
use Rattle.modules.specs.Kept.{belongs, lies_in, symbols_that}
use Rattle.modules.specs.Listed.{ListedSymbol}
use Rattle.modules.specs.Placed.{PlacedModule}
use Rattle.modules.specs.declared.gathering.GatheredSymbols.{GatheredSymbols}
use Rattle.modules.specs.declared.gathering.GatheredSymbols.TheVariants.{Copies, Nothing, Run}
use Rattle.modules.specs.declared.shared_listings.SharedRun.{SharedRun}

-- the symbols that are kept so far
abbrev pub gathered_in : GatheredSymbols → List SymbolEntry
gathered_in Nothing = []
gathered_in (Run symbols) = symbols
gathered_in (Copies list) = list.items

-- the symbols that lie in the module's regions
abbrev pub kept_by : PlacedModule → List SymbolEntry → List SymbolEntry
kept_by m symbols = filter (λ s. lies_in m s.addr) symbols

-- the list at a place has these symbols more, and the other lists are as they were
pub record KeepsAt (place : ℕ) (kept : List SymbolEntry) (g h : List GatheredSymbols) : Type 0 where
  pub lists : length h ≡ length g
  pub put : (d : GatheredSymbols) → gathered_in (slice_index_or h place d)
      ≡ gathered_in (slice_index_or g place d) ++ kept
  pub others : (j : ℕ) (d : GatheredSymbols) → j ≢ place
      → slice_index_or h j d ≡ slice_index_or g j d

-- the module at the place, if there is one, keeps its symbols of these
abbrev pub KeepsFor : Accepted → Option ℕ → List SymbolEntry → List GatheredSymbols
    → List GatheredSymbols → Type 0
KeepsFor a None symbols g h = h ≡ g
KeepsFor a (Some place) symbols g h =
    (m : PlacedModule) → KeepsAt place (kept_by (slice_index_or a.modules place m) symbols) g h

-- the lines of a run are gone through
abbrev pub KeepsRun : Accepted → SharedRun → List GatheredSymbols → List GatheredSymbols → Type 0
KeepsRun a r g h =
    KeepsFor a (position_from (bytes_eq r.module.now) 0 (names_of a.modules)) r.symbols g h

-- what the lines leave in the list of each module
pub record Gathers (a : Accepted) (lines : List ListedSymbol) (g : List (List SymbolEntry))
    : Type 0 where
  pub lists : length g ≡ length a.modules
  pub each : (j : ℕ) (d : List SymbolEntry) (m : PlacedModule) → j < length a.modules
      → slice_index_or g j d ≡ symbols_that (belongs (slice_index_or a.modules j m)) lines
