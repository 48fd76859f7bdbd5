use Rattle.modules.proofs.Words.{◌≡◌, ℕ, ◌<◌, ◌≤◌, Option, List}
use Rattle.modules.proofs.Words.{length, sym, ap, subst, ◌∙◌, arith, All, flat_map}
use Rattle.std.proofs.lemmas.Result.{IfOk-weaker}
use Rattle.modules.proofs.Definitions.{Item, accepted_with, IsFromSymbols, kernel_regions}
use Rattle.modules.proofs.Definitions.{BoundNames, ListedSymbol, AreNamed, kept_numbers, marks_of}
use Rattle.modules.proofs.Definitions.{modules_numbered, AreLaid, AreRegions, PlacedModule}
use Rattle.modules.proofs.Definitions.{Mark, SharedRun}
use Rattle.modules.specs.SharedRuns.{lines_of_shared, listing_view}
use Rattle.modules.proofs.LineMarkLemmas.{marks_of_modules, named_all, owners_within}
use Rattle.modules.proofs.KeptOrderLemmas.{from_symbols}
use Rattle.modules.proofs.TakenLemmas.{few_regions, items_numbered}
use Rattle.modules.specs.ListingParts.{ListingParts, parts_of}
use Rattle.modules.proofs.from_symbols.modules_of.Goals as goal

-- the modules of the kept numbers are those of a listing with these parts
found_modules : (bounds : Option BoundNames) (p : ListingParts) (names : List (List ℕ))
    (lines : List ListedSymbol) (marks : List Mark) (items : List Item)
    (modules : List PlacedModule) → p ≡ parts_of bounds lines → AreNamed names p.lines
    → marks ≡ marks_of p.kernel names p.lines → AreRegions marks items
    → modules ≡ modules_numbered names items (kept_numbers items marks)
    → IsFromSymbols bounds lines (accepted_with p.kernel modules)
found_modules bounds p names lines marks items modules is named are regions made =
    let kernel : List (ℕ × ℕ) = kernel_regions bounds lines in
    let same : marks ≡ marks_of kernel names lines =
    are
    ∙ ap (λ (q : ListingParts). marks_of q.kernel names q.lines) is
    ∙ marks_of_modules kernel names lines in
    let all : AreNamed names lines =
    named_all names lines (subst (λ (q : ListingParts). AreNamed names q.lines) is named) in
    let found = from_symbols bounds lines names items all
    (subst (λ (ms : List Mark). AreRegions ms items) same regions) in
    subst (λ (k : List (ℕ × ℕ)). IsFromSymbols bounds lines (accepted_with k modules))
    (sym (ap (λ (q : ListingParts). q.kernel) is))
    (subst (λ (ms : List PlacedModule). IsFromSymbols bounds lines (accepted_with kernel ms))
    (sym
    (made ∙ ap (λ (ms : List Mark). modules_numbered names items (kept_numbers items ms)) same))
    found)

pub modules_in_order-requires : goal.modules_in_order-requires
modules_in_order-requires c =
    let names = c.in_ok-numbers.numbers in
    let marks : List Mark = c.in_ok-marks.marks.items in
    let items : List Item = c.in_ok-items.items.items in
    let regions : AreRegions marks items = subst (λ (ms : List Mark). AreRegions ms items)
    (c.in_ok-from_slice.ensures.items ∙ c.as_slice.ensures.value) c.in_ok-items.ensures in
    let within : All (λ m. m.owner ≤ length names) marks =
    subst (λ (ms : List Mark). All (λ m. m.owner ≤ length names) ms) (sym c.in_ok-marks.ensures)
    (owners_within c.deref-2.result.now names (lines_of_shared c.deref-3.result.now)) in
    record {
      laid = subst (λ (is : List Item). AreLaid is) (sym c.as_slice-3.ensures.value) regions.laid;
      numbered = subst (λ (is : List Item). All (λ i. (0 < i.tag) × (i.tag ≤ length names)) is)
          (sym c.as_slice-3.ensures.value)
          (items_numbered (length names) marks items regions within);
      owned = subst (λ (ms : List Mark). All (λ m. m.owner ≤ length names) ms)
          (sym c.as_slice-2.ensures.value) within;
    }

pub returns : goal.returns
returns c =
    let inside = c.listing.inside in
    let p : ListingParts = listing_view inside in
    let names = c.in_ok-numbers.numbers in
    let named : AreNamed names p.lines =
    subst (λ (rs : List SharedRun). AreNamed names (lines_of_shared rs)) c.deref.ensures.value
    c.in_ok-numbers.ensures in
    let marks : List Mark = c.in_ok-marks.marks.items in
    let are : marks ≡ marks_of p.kernel names p.lines = c.in_ok-marks.ensures
    ∙ ap (λ (k : List (ℕ × ℕ)). marks_of k names (lines_of_shared c.deref-3.result.now))
    c.deref-2.ensures.value
    ∙ ap (λ (rs : List SharedRun). marks_of p.kernel names (lines_of_shared rs))
    c.deref-3.ensures.value in
    let items : List Item = c.in_ok-items.items.items in
    let regions : AreRegions marks items = subst (λ (ms : List Mark). AreRegions ms items)
    (c.in_ok-from_slice.ensures.items ∙ c.as_slice.ensures.value) c.in_ok-items.ensures in
    let given : modules_numbered names c.as_slice-3.result.now (kept_numbers c.as_slice-3.result.now
    c.as_slice-2.result.now) ≡ modules_numbered names items (kept_numbers items marks) =
    ap (λ (is : List Item). modules_numbered names is (kept_numbers is c.as_slice-2.result.now))
    c.as_slice-3.ensures.value
    ∙ ap (λ (ms : List Mark). modules_numbered names items (kept_numbers items ms))
    c.as_slice-2.ensures.value in
    record {
      found = IfOk-weaker c.modules_in_order.result _ _
          (λ v is. subst (λ (q : ListingParts). (bounds : Option BoundNames)
          (lines : List ListedSymbol) → q ≡ parts_of bounds lines
          → IsFromSymbols bounds lines (accepted_with q.kernel v.items)) c.listing.view_is
          (λ bounds lines at. found_modules bounds p names lines marks items v.items at named are
          regions (is ∙ given))) c.modules_in_order.ensures;
      few = IfOk-weaker c.modules_in_order.result _ _ (λ v is. omega (
        arith,
        few_regions names items marks,
        ap (λ (ms : List PlacedModule). length (flat_map (λ (m : PlacedModule). m.regions) ms))
            (is ∙ given),
        c.in_ok-items.items.ok.0,
        c.in_ok-items.items.ok.1,
        c.in_ok-items.items.small,
      )) c.modules_in_order.ensures;
    }
