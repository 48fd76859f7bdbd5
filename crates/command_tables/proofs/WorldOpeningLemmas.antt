-- A world for the table of a catalog, from its opening on: of `open_for` and `look_up` of table.
use Rattle.command_tables.proofs.Words.{◌≡◌, ℕ, ◌≤◌, false, List, [], length, Result, Ok, Err, refl}
use Rattle.command_tables.proofs.Words.{sym, ◌∙◌, ap, subst, ⊎_elim, arith, get, get-empty}
use Rattle.command_tables.proofs.Words.{HalfOpen, Item, Refusal, OutOfMemory, half_open, look}
use Rattle.command_tables.proofs.Words.{Layout, capacity_of, limit_of, Update, World, Moment}
use Rattle.command_tables.proofs.Words.{opening, IsAfter, RepresentsMoment, layout_in, FindsNow}
use Rattle.command_tables.proofs.Words.{IsFoundFromAny, IsNotBegun, table_in, IsSoundCatalog}
use Rattle.command_tables.proofs.Words.{regions_of, CatalogEntries, HasTable, HoldsBelow}
use Rattle.command_tables.proofs.Words.{AreInsertsOf, as_many, current_at_rest, none_begun}
use Rattle.command_tables.proofs.Words.{table_at_rest, NoLookup, found_at_end, none_at_end}
use Rattle.command_tables.proofs.Words.{same_readers}
use Rattle.std.specs.Prelude.{IfOk, is_some}
use Rattle.std.specs.Ordering.{nat_cmp}
use Rattle.word_layout.specs.Limits.{greatest_wide_sequence}
use Rattle.latch_steps.specs.declared.replies.Returned.{Returned}
use Rattle.command_tables.proofs.LoadLemmas.{look_in_table}
use Rattle.latch_core.specs.Invariants.{IsSound as IsSoundLatch}

no_updates : AreInsertsOf [] []
no_updates = record { inserted = refl; erased = refl; few = omega arith }

-- a world that was opened holds nothing
pub opened : (c : CatalogEntries) (r : Result (World HalfOpen ℕ) Refusal) (l : Layout)
    → IsSoundCatalog c → IfOk r (λ w. layout_in w ≡ l)
    → IfOk r (λ w. RepresentsMoment half_open w (opening (capacity_of l) 0))
    → IfOk r (IsAfter half_open 0 [])
    → length (regions_of c) ≤ capacity_of l → limit_of l ≡ greatest_wide_sequence
    → IfOk r (HoldsBelow c 0)
opened c (Err e) l sound lay shows after room limit = tt
opened c (Ok w) l sound lay shows after room limit =
    let n = capacity_of (layout_in w) in
    let none : NoLookup after.moment = same_readers half_open w (opening (capacity_of l) 0)
    after.moment shows after.shows (λ r. get-empty nat_cmp r) in
    record {
      sound = sound;
      holds = record {
        updates = [];
        idle = record {
          after = after;
          rest = none_begun half_open n 0 after.moment.latch after.sound;
          no_lookup = none;
        };
        inserts = no_updates;
      };
      room = record {
        capacity = omega (arith, as_many c, ap capacity_of lay);
        limit = ap limit_of lay ∙ limit;
      };
    }

-- a lookup in an idle world finds the item that holds the address, and leaves the world idle
module _ (items : List Item) (old new : World HalfOpen ℕ) (h : HasTable items old) where
  pub right_item : (r addr : ℕ) (x : Returned ℕ)
      → IsFoundFromAny half_open old r addr x
      → x.answer ≡ look half_open addr items
  right_item r addr x found =
      let a = h.idle.after in
      let n = capacity_of (layout_in old) in
      let f = found 0 h.updates a in
      f.look.answer ∙ ap (λ k. look half_open k (table_in a)) f.key
      ∙ ap (look half_open addr)
      (current_at_rest half_open n 0 h.updates a.moment.latch a.sound h.idle.rest)
      ∙ look_in_table h.updates items h.inserts
      (table_at_rest half_open n 0 h.updates a.moment.latch a.sound) addr

  pub still_holds : (r addr : ℕ) (x : Returned ℕ) → layout_in new ≡ layout_in old
      → ((w : Moment ℕ) → RepresentsMoment half_open old w → FindsNow half_open old w r addr x new)
      → HasTable items new
  still_holds r addr x lay finds =
      let a = h.idle.after in
      let n = capacity_of (layout_in old) in
      let f = finds a.moment a.shows in
      let read = found_at_end r half_open n (limit_of (layout_in old)) a.moment f.begun addr f.run x
      f.done f.reads f.steps in
      let latch = read.differs.latch in
      record {
        updates = h.updates;
        idle = record {
          after = record {
            moment = f.done;
            shows = f.shows;
            sound = subst (λ l. IsSoundLatch half_open (capacity_of l) 0 h.updates f.done.latch)
                (sym lay) (subst (IsSoundLatch half_open n 0 h.updates) (sym latch) a.sound);
          };
          rest = ap (λ l. l.pending) latch ∙ h.idle.rest;
          no_lookup = none_at_end r a.moment f.done x h.idle.no_lookup read;
        };
        inserts = h.inserts;
      }

  -- it is never refused since the reader is busy
  pub only_for_memory : (r : ℕ) (e : Refusal)
      → ((start : ℕ) (us : List Update) (a : IsAfter half_open start us old)
      → IsNotBegun half_open a r e new) → e ≡ OutOfMemory
  only_for_memory r e refusal =
      let a = h.idle.after in
      ⊎_elim (λ m. m.0)
      (λ busy. let none : is_some (get a.moment.lookups r) ≡ false =
      ap is_some (h.idle.no_lookup r) in
      let some = busy.1 in
      absurd (cc))
      (refusal 0 h.updates a)
