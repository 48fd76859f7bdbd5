-- Whether an address is below all regions of a catalog.
use Rattle.command_listings.proofs.Words.{◌≡◌, ◌∙◌, ℕ, suc, ◌≤◌, Bool, true, false, ◌||◌, ◌==◌}
use Rattle.command_listings.proofs.Words.{eqb-true, nat_le, List, [], ◌∷◌, length, get_or, ap, sym}
use Rattle.command_listings.proofs.Words.{arith, list_any, ⊎_elim, leb-false, false_from_ne_true}
use Rattle.command_listings.proofs.Words.{CatalogEntries, Item}
use Rattle.std.proofs.lemmas.List.Folds.{list_any_none}
use Rattle.command_listings.specs.LogAnswers.{is_reached}
use Rattle.modules.specs.Items.{items_of}
use Rattle.modules.specs.RegionIndexes.{IsIndexOf}
use Rattle.std.specs.Prelude.{slice_index_or}
use Rattle.std.proofs.lemmas.Bool.{cases_Bool, leb-true}
use Rattle.std.proofs.lemmas.List.Sorted.{list_any-IsPermutation}

module _ (c : CatalogEntries) (addr : ℕ) where
  by_items : (items : List Item) → IsIndexOf c items
      → list_any (λ i. nat_le i.a addr) items ≡ is_reached c addr
  by_items items index =
      sym (list_any-IsPermutation (λ i. nat_le i.a addr) (items_of c) items index.same)

  pub none_reached : (items : List Item) → IsIndexOf c items → (length items == 0) ≡ true
      → false ≡ is_reached c addr
  none_reached [] index none = by_items [] index
  none_reached (first ∷ more) index none =
      absurd (omega (arith, eqb-true (length (first ∷ more)) 0 none))

  -- the first of the items begins lowest
  pub reached_by_first : (items : List Item) (d : Item) → IsIndexOf c items → 1 ≤ length items
      → nat_le (slice_index_or items 0 d).a addr ≡ is_reached c addr
  reached_by_first [] d index some = absurd (omega (arith, some))
  reached_by_first (first ∷ more) d index some =
      ⊎_elim
      (λ yes. yes ∙ sym (ap (λ b. b || list_any test more) yes))
      (λ over. over
      ∙ sym (ap (λ b. b || list_any test more) over ∙ list_any_none test more (λ k e low. higher
      (get_or more k e) over (index.rising 0 (suc k) e (omega arith) (omega (arith, low))))))
      (cases_Bool (nat_le first.a addr))
      ∙ by_items (first ∷ more) index
    where
      test : Item → Bool
      test i = nat_le i.a addr

      higher : (i : Item) → nat_le first.a addr ≡ false → first.a ≤ i.a → nat_le i.a addr ≡ false
      higher i over le = false_from_ne_true (nat_le i.a addr)
          (λ yes. absurd (omega (arith, leb-false first.a addr over, leb-true i.a addr yes, le)))
