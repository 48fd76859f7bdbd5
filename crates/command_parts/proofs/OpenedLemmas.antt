-- What holds of a catalog that was opened.
use Rattle.command_parts.proofs.Words.{◌≡◌, ◌∙◌, Bool, List, ℕ, Option, Some, None, Result, Ok, Err}
use Rattle.command_parts.proofs.Words.{IfOk, ap, false, refl}
use Rattle.texts.specs.Lines.{lines_of}
use Rattle.modules.specs.Listed.{BoundNames, ListedRegion}
use Rattle.listing.specs.Opening.{Given, IsOpened, Listed, listings_of, listings_with}
use Rattle.listing.specs.Opening.{skipped_modules_of, with_lines}
use Rattle.listing.specs.RegionListing.{regions_of_text}
use Rattle.listing.specs.SymbolListing.{symbol_counts}
use Rattle.listing.specs.Tallies.{tallies_by, tallies_of, tallies_with}
use Rattle.listing.specs.declared.opening.OpenedCatalog.{OpenedCatalog}
use Rattle.command_parts.specs.OpenedCatalogs.{IsCatalogBy, IsCatalogOf, OpensCatalog}
use Rattle.command_parts.specs.Readings.{HoldsOf}

-- there is what it holds of
pub holds_at : {I B : Type 0} (P : I → Type 0) (r : Result I B) → HoldsOf P r
    → (i : I) × (r ≡ Ok i) × P i
holds_at P (Ok i) h = (i, refl, h)
holds_at P (Err bad) h = absurd h

-- what says less holds as well
pub holds_less : {I B : Type 0} (P Q : I → Type 0) → ((i : I) → P i → Q i) → (r : Result I B)
    → HoldsOf P r → HoldsOf Q r
holds_less P Q less (Ok i) h = less i h
holds_less P Q less (Err bad) h = absurd h

-- it is the catalog of the listings
pub catalog_opened : (kernel : Option BoundNames) (g : Given) (o : OpenedCatalog)
    → OpensCatalog kernel g (Ok o) → IsCatalogOf kernel g o.catalog o.notes
catalog_opened kernel g o h = holds_less (λ l. IsOpened kernel false l o)
    (IsCatalogBy kernel o.catalog o.notes) (λ l is. (o.built, is.said, is.notes)) (listings_of g) h

-- the listings have the texts that are given
abbrev HasTexts : Given → Listed → Type 0
HasTexts g l = (l.modules ≡ g.modules) × (l.kallsyms ≡ g.kallsyms)

of_lines : (g : Given) (lines : Result (List ListedRegion) ℕ)
    → IfOk (with_lines g lines) (HasTexts g)
of_lines g (Ok lines) = (refl, refl)
of_lines g (Err n) = tt

of_regions : (g : Given) (regions : Option (List ℕ)) → IfOk (listings_with g regions) (HasTexts g)
of_regions g None = (refl, refl)
of_regions g (Some text) = of_lines g (regions_of_text text)

pub same_texts : (g : Given) (l : Listed) → listings_of g ≡ Ok l
    → (l.modules ≡ g.modules) × (l.kallsyms ≡ g.kallsyms)
same_texts g l is = rw is at (of_regions g g.regions)

-- its lines went where the listings say
pub tallies_said : (kernel : Option BoundNames) (mapping : Bool) (l : Listed) (o : OpenedCatalog)
    → IsOpened kernel mapping l o → tallies_of o ≡ tallies_with l o.built
tallies_said kernel mapping l o is =
    ap (λ m. tallies_by m o.skipped_symbols.by_place o.has_regions o.built) is.skipped_modules
    ∙ ap (λ s. tallies_by (skipped_modules_of l) s o.has_regions o.built) is.skipped_symbols
    ∙ ap (λ r. tallies_by (skipped_modules_of l) (symbol_counts (lines_of l.kallsyms)) r o.built)
    is.has_regions
