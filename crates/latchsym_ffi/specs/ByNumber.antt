-- What calls return of the modules, the regions and the symbols of a catalog by their numbers.
use Rattle.std.specs.Prelude.{◌≡◌, ℕ, ◌+◌, if◌then◌else◌, List, drop, length, position, slice_get}
use Rattle.std.specs.Prelude.{Option, Some, None}
use Rattle.std.specs.Option.{option_and_then, option_map}
use Rattle.std.specs.Str.{bytes_eq}
use Rattle.modules.specs.Catalogs.{module_of}
use Rattle.modules.specs.Entries.{CatalogEntries, ModuleEntry, SymbolEntry}
use Rattle.modules.specs.Parts.{is_init}
use Rattle.modules.specs.SymbolNames.{symbols_named}
use Rattle.modules.specs.declared.lines.Part.{Part}
use Rattle.latchsym_ffi.specs.Answers.{answer_number}
use Rattle.latchsym_ffi.specs.declared.answers.CallOutcome.TheVariants.{Done, Nothing}
use Rattle.latchsym_ffi.specs.declared.by_number.CatalogModule.{CatalogModule}
use Rattle.latchsym_ffi.specs.declared.by_number.CatalogRegion.{CatalogRegion}
use Rattle.latchsym_ffi.specs.declared.by_number.CatalogEntry.{CatalogEntry}

-- a region of a module, by number and place, and its part
abbrev pub region_at : CatalogEntries → ℕ → ℕ → Option (ℕ × ℕ)
region_at c number place = option_and_then (λ m. slice_get m.regions place) (module_of c number)

abbrev pub part_at : CatalogEntries → ℕ → ℕ → Option Part
part_at c number place = option_and_then (λ m. slice_get m.parts place) (module_of c number)

-- a symbol of a module, by number and by place in the order listed
abbrev pub symbol_at_place : CatalogEntries → ℕ → ℕ → Option SymbolEntry
symbol_at_place c number place =
    option_and_then (λ m. slice_get m.symbols place) (module_of c number)

-- the place of the first of these symbols from a place on that has this name
abbrev pub named_from : List SymbolEntry → List ℕ → ℕ → Option ℕ
named_from symbols name from =
    option_map (λ n. from + n) (position (λ s. bytes_eq s.name name) (drop from symbols))

-- the place of a name among the symbols of the module of a number
abbrev pub place_named : CatalogEntries → ℕ → List ℕ → ℕ → Option ℕ
place_named c number name from =
    option_and_then (λ m. named_from m.symbols name from) (module_of c number)

-- the n-th symbol of a name: the number of its module, and its place there
abbrev pub place_of_name : CatalogEntries → List ℕ → ℕ → Option (ℕ × ℕ)
place_of_name c name from =
    option_map (λ s. (s.number, s.place)) (slice_get (symbols_named c name) from)

-- what is returned and written of a module, if there is one; of none nothing is written
abbrev pub TellsModule : Option ModuleEntry → ℕ → CatalogModule → CatalogModule → Type 0
TellsModule None result old new = (result ≡ answer_number Nothing) × (new ≡ old)
TellsModule (Some m) result old new =
    (result ≡ answer_number Done) × (new.name.now ≡ m.name) × (new.regions ≡ length m.regions)
    × (new.symbols ≡ length m.symbols)

-- of a region
abbrev pub TellsRegion : Option (ℕ × ℕ) → Option Part → ℕ → CatalogRegion → CatalogRegion → Type 0
TellsRegion None p result old new = (result ≡ answer_number Nothing) × (new ≡ old)
TellsRegion (Some r) None result old new = (result ≡ answer_number Nothing) × (new ≡ old)
TellsRegion (Some r) (Some p) result old new =
    (result ≡ answer_number Done)
    × (new ≡ record { a = r.0; b = r.1; is_init = if is_init p then 1 else 0 })

-- of a symbol
abbrev pub TellsSymbol : Option SymbolEntry → ℕ → CatalogEntry → CatalogEntry → Type 0
TellsSymbol None result old new = (result ≡ answer_number Nothing) × (new ≡ old)
TellsSymbol (Some s) result old new =
    (result ≡ answer_number Done) × (new.addr ≡ s.addr) × (new.name.now ≡ s.name)

-- of a place
abbrev pub TellsPlace : Option ℕ → ℕ → ℕ → ℕ → Type 0
TellsPlace None result old new = (result ≡ answer_number Nothing) × (new ≡ old)
TellsPlace (Some place) result old new = (result ≡ answer_number Done) × (new ≡ place)

-- of a module's number and a place
abbrev pub TellsBoth : Option (ℕ × ℕ) → ℕ → ℕ × ℕ → ℕ × ℕ → Type 0
TellsBoth None result old new = (result ≡ answer_number Nothing) × (new ≡ old)
TellsBoth (Some both) result old new = (result ≡ answer_number Done) × (new ≡ both)
