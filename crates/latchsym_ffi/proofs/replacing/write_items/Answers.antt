use Rattle.latchsym_ffi.proofs.Words.{◌≡◌, ◌∙◌, List, length, sym, length_permutation, Item}
use Rattle.latchsym_ffi.proofs.Words.{regions_of, CatalogEntries, items_of, IsIndexOf}
use Rattle.latchsym_ffi.proofs.ViewLemmas.{as_many_items}
use Rattle.latchsym_ffi.proofs.replacing.write_items.Goals as goal

-- an index has as many items as the catalog has regions
as_many : (c : CatalogEntries) (items : List Item) → IsIndexOf c items
    → length items ≡ length (regions_of c)
as_many c items indexed = length_permutation (items_of c) items indexed.same ∙ sym (as_many_items c)

pub returns-then-out-items-clause-done : goal.returns-then-out-items-clause-done
returns-then-out-items-clause-done c same =
    absurd (c.if-out-items.true
    (same ∙ sym (as_many c.args.catalog.now c.items-items.result.now c.items-items.ensures)))

pub returns-clause-room : goal.returns-clause-room
returns-clause-room c differ =
    absurd (differ (c.if-out-items.false
    ∙ as_many c.args.catalog.now c.items-items.result.now c.items-items.ensures))
