-- What updates that insert items leave in a table: of WorldOpeningLemmas and of `load` of table.
use Rattle.command_tables.proofs.Words.{◌≡◌, ℕ, ◌<◌, List, [], ◌∷◌, ◌++◌, length, sym, ◌∙◌, ap}
use Rattle.command_tables.proofs.Words.{subst, inr, ⊎_elim, arith, append-nil, length-append}
use Rattle.command_tables.proofs.Words.{Contains, flat_map-append, Item, Order, half_open}
use Rattle.command_tables.proofs.Words.{half_open_lawful, IsTable, look, Update, replay, erased}
use Rattle.command_tables.proofs.Words.{inserted, AreInsertsOf}
use Rattle.order_laws.proofs.TableLemmas.{look_is, look_only, same_look}
use Rattle.facts.proofs.Members.{Contains-none}
use Rattle.table_updates.proofs.HistoryLemmas.{from_replay, length_replay, to_replay}

-- a list of updates that erase nothing
module _ {K : Type 0} (o : Order K) (us : List Update) (items : List Item)
    (h : AreInsertsOf us items) where
  pub in_table : (x : Item) → Contains (replay o [] us) x → Contains items x
  in_table x m = ⊎_elim (λ q. absurd (Contains-none x q))
      (λ q. subst (λ l. Contains l x) h.inserted q) (from_replay o x us [] h.erased m)

  pub all_in_table : (x : Item) → Contains items x → Contains (replay o [] us) x
  all_in_table x m =
      to_replay o x us [] h.erased (inr (subst (λ l. Contains l x) (sym h.inserted) m))

  pub table_length : length (replay o [] us) ≡ length items
  table_length = omega (arith, length_replay o us [] h.erased, ap length h.inserted)

pub look_in_table : (us : List Update) (items : List Item) → AreInsertsOf us items
    → IsTable half_open (replay half_open [] us) → (k : ℕ)
    → look half_open k (replay half_open [] us) ≡ look half_open k items
look_in_table us items h table k =
    sym (look_only half_open half_open_lawful k (replay half_open [] us) (look half_open k items)
    table
    (same_look half_open k items (replay half_open [] us) (look half_open k items)
    (all_in_table half_open us items h) (in_table half_open us items h)
    (look_is half_open k items)))

-- an update more
pub one_update_more : (us : List Update) (items more : List Item) (u : Update)
    → AreInsertsOf us items → inserted u ≡ more → erased u ≡ [] → 0 < length more
    → AreInsertsOf (us ++ u ∷ []) (items ++ more)
one_update_more us items more u h puts none some =
    record {
      inserted = flat_map-append inserted us (u ∷ []) ∙ ap (λ l. l ++ (inserted u ++ [])) h.inserted
          ∙ ap (λ l. items ++ l) (append-nil (inserted u) ∙ puts);
      erased = flat_map-append erased us (u ∷ []) ∙ ap (λ l. l ++ (erased u ++ [])) h.erased
          ∙ append-nil (erased u) ∙ none;
      few = let f = h.few in omega (arith, length-append us (u ∷ []), length-append items more);
    }
