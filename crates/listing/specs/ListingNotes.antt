-- What is noted of a listing without a line of use.
use Rattle.std.specs.Prelude.{◌≡◌, ℕ, Bool, true, false, not, ◌&&◌, ◌||◌, nat_eq, nat_lt, List, []}
use Rattle.std.specs.Prelude.{◌∷◌}
use Rattle.std.specs.Prelude.{length, Option, Some, None, is_some}
use Rattle.std.specs.List.{list_any}
use Rattle.std.specs.Option.{option_map_or}
use Rattle.texts.specs.Lines.{lines_of}
use Rattle.listing.specs.Looks.{are_modules_hidden, are_symbols_hidden, first_ends_in_cr, is_gzip}
use Rattle.listing.specs.Looks.{is_utf_16, is_kernel_symbol, is_module_line, is_of_kernel}
use Rattle.listing.specs.Looks.{is_symbol_line, lacks_lines, looks_like_modules, looks_like_symbols}
use Rattle.listing.specs.ModuleListing.{modules_in}
use Rattle.listing.specs.Owners.{is_owner, unlisted_owner}
use Rattle.listing.specs.Overlaps.{do_modules_overlap}
use Rattle.listing.specs.SymbolListing.{symbols_in, symbols_with}
use Rattle.modules.specs.Entries.{CatalogEntries, ModuleEntry}
use Rattle.modules.specs.Listed.{BoundNames, ListedSymbol}
use Rattle.listing.specs.declared.listing_notes.ListingNote.{ListingNote}
use Rattle.listing.specs.declared.listing_notes.ListingNote.TheVariants.{Empty, Gzip, Utf16}
use Rattle.listing.specs.declared.listing_notes.ListingNote.TheVariants.{AllHidden}
use Rattle.listing.specs.declared.listing_notes.ListingNote.TheVariants.{LooksLikeSymbols}
use Rattle.listing.specs.declared.listing_notes.ListingNote.TheVariants.{LooksLikeModules}
use Rattle.listing.specs.declared.listing_notes.ListingNote.TheVariants.{LinesEndInCrLf, NoStart}
use Rattle.listing.specs.declared.listing_notes.ListingNote.TheVariants.{NoEnd, OtherBoot}
use Rattle.listing.specs.declared.listing_notes.ListingNote.TheVariants.{ModulesOverlap}
use Rattle.listing.specs.declared.listing_notes.ListingNote.TheVariants.{NoModuleLine}
use Rattle.listing.specs.declared.listing_notes.ListingNote.TheVariants.{NoSymbolLine}
use Rattle.listing.specs.declared.listing_notes.ListingNote.TheVariants.{UnlistedOwner}
use Rattle.listing.specs.declared.listing_notes.ListingNotes.{ListingNotes}
use Rattle.listing.specs.declared.owners.Owner.TheVariants.{Bpf, Ftrace, Kprobes}

-- the notes, in the order in which the first that applies is sought
abbrev pub all_notes : List ListingNote
all_notes =
    Empty ∷ Gzip ∷ Utf16 ∷ AllHidden ∷ LooksLikeSymbols ∷ LooksLikeModules ∷ LinesEndInCrLf
    ∷ NoStart
    ∷ NoEnd ∷ OtherBoot ∷ ModulesOverlap ∷ NoModuleLine ∷ NoSymbolLine ∷ UnlistedOwner Bpf
    ∷ UnlistedOwner Ftrace ∷ UnlistedOwner Kprobes ∷ []

-- no line of the listing of modules is accepted
abbrev pub has_no_module : CatalogEntries → Bool
has_no_module c = nat_eq (length c.modules) 0

-- the module is there, and a symbol of it lies in its region
abbrev pub has_symbols : Option ModuleEntry → Bool
has_symbols m = option_map_or (λ entry. nat_lt 0 (length entry.symbols)) m false

-- modules are listed, and no symbol of any of them lies in its region
abbrev pub lacks_symbols : CatalogEntries → Bool
lacks_symbols c = not (has_no_module c) && not (list_any (λ m. has_symbols (Some m)) c.modules)

-- symbols of the kernel itself are listed, and none of them has this name
abbrev pub lacks_symbol : List ℕ → List ListedSymbol → Bool
lacks_symbol name symbols =
    list_any is_of_kernel symbols && not (list_any (is_kernel_symbol name) symbols)

-- symbols have both names
abbrev pub HasBounds : BoundNames → List ListedSymbol → Type 0
HasBounds names symbols =
    (list_any (is_kernel_symbol names.start) symbols ≡ true)
    × (list_any (is_kernel_symbol names.end) symbols ≡ true)

-- what is noted of a listing of modules with this text, if the listing of symbols has that one and
-- the catalog of both is this, which mapping symbols may be in or not
abbrev pub is_of_modules : Bool → List ℕ → List ℕ → CatalogEntries → ListingNote → Bool
is_of_modules mapping text kallsyms c Gzip = is_gzip text
is_of_modules mapping text kallsyms c Utf16 = is_utf_16 text
is_of_modules mapping text kallsyms c AllHidden = are_modules_hidden (lines_of text)
is_of_modules mapping text kallsyms c LooksLikeSymbols =
    has_no_module c && looks_like_symbols (lines_of text)
is_of_modules mapping text kallsyms c LinesEndInCrLf =
    has_no_module c && first_ends_in_cr (lines_of text)
is_of_modules mapping text kallsyms c OtherBoot = lacks_symbols c
is_of_modules mapping text kallsyms c ModulesOverlap =
    do_modules_overlap (modules_in (lines_of text)) (symbols_in (lines_of kallsyms)) c
is_of_modules mapping text kallsyms c NoModuleLine =
    has_no_module c && lacks_lines is_module_line text
is_of_modules mapping text kallsyms c (UnlistedOwner owner) =
    not mapping
    && is_owner owner
    (unlisted_owner (modules_in (lines_of text))
    (symbols_with mapping (symbols_in (lines_of kallsyms))))
is_of_modules mapping text kallsyms c _ = false

-- what is noted of a listing of symbols with this text, if `kept` of them are kept and these names
-- bound the kernel; it is alone if there is no listing of modules
abbrev pub is_of_kallsyms : BoundNames → Bool → List ℕ → ℕ → ListingNote → Bool
is_of_kallsyms names alone text kept Empty = alone && nat_eq (length text) 0
is_of_kallsyms names alone text kept Gzip = is_gzip text
is_of_kallsyms names alone text kept Utf16 = is_utf_16 text
is_of_kallsyms names alone text kept AllHidden = are_symbols_hidden (lines_of text)
is_of_kallsyms names alone text kept LooksLikeModules =
    nat_eq kept 0 && looks_like_modules (lines_of text)
is_of_kallsyms names alone text kept LinesEndInCrLf =
    nat_eq kept 0 && first_ends_in_cr (lines_of text)
is_of_kallsyms names alone text kept NoStart =
    lacks_symbol names.start (symbols_in (lines_of text))
is_of_kallsyms names alone text kept NoEnd = lacks_symbol names.end (symbols_in (lines_of text))
is_of_kallsyms names alone text kept NoSymbolLine =
    nat_eq kept 0 && lacks_lines is_symbol_line text
is_of_kallsyms names alone text kept _ = false

-- something is noted
abbrev pub is_some_noted : ListingNotes → Bool
is_some_noted notes = is_some notes.modules || is_some notes.kallsyms

-- of a job without listings
abbrev pub no_notes : ListingNotes
no_notes = record { modules = None; kallsyms = None }
