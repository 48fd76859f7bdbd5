use Rattle.latchsym_ffi.proofs.Words.{◌≡◌, ◌∙◌, List, false, sym, ap, subst, Some, Option}
use Rattle.std.proofs.lemmas.Result.{IfOk-weaker}
use Rattle.listing.specs.Opening.{symbols_of}
use Rattle.modules.specs.Entries.{CatalogEntries}
use Rattle.modules.specs.ListingParts.{changed_parts, IsOfSymbols, ListingParts, changed_lines}
use Rattle.modules.specs.Listed.{BoundNames, ListedSymbol}
use Rattle.modules.specs.declared.catalog.BuildCounts.{BuildCounts}
use Rattle.latchsym_ffi.specs.Changing.{IsChanged}
use Rattle.latchsym_ffi.specs.HeldCatalogs.{HeldCatalog}
use Rattle.latchsym_ffi.proofs.changing.changed.Goals as goal

pub returns : goal.returns
returns c =
    let change = c.args.change.now in
    let p : ListingParts = c.args.listing.now in
    let named = c.in_ok-named.named in
    let added : List ListedSymbol = symbols_of false change in
    let is : c.in_ok-listing.listing ≡ changed_parts named added p = c.in_ok-listing.ensures
    ∙ ap (λ (lines : List ListedSymbol). changed_parts named lines p)
    c.in_ok-added.ensures.lines in
    IfOk-weaker c.new-2.result _ _ (λ o made. subst (IsChanged change p) (sym made) (record {
      named = named;
      names = c.in_ok-named.ensures;
      listing = ap Some is;
      catalog = λ names lines at. (
        c.in_ok-catalog._counts,
        subst (λ (entries : CatalogEntries).
            IsOfSymbols names (changed_lines named added lines) entries c.in_ok-catalog._counts)
            (sym c.in_ok-new.ensures)
            (c.in_ok-catalog.ensures names (changed_lines named added lines)
            (is ∙ ap (changed_parts named added) at
            ∙ c.changed_parts_are_of_the_changed_listing.ensures names named added lines)),
      );
    })) c.new-2.ensures
