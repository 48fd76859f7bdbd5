use Rattle.command_tables.proofs.Words.{◌≡◌, ℕ, ◌+◌, ◌≤◌, true, false, List, [], ◌∷◌, ◌++◌, length}
use Rattle.command_tables.proofs.Words.{None, sym, ◌∙◌, ap, subst, ⊎_elim, arith, Contains, get}
use Rattle.command_tables.proofs.Words.{HalfOpen, Item, Refusal, OutOfMemory, half_open}
use Rattle.command_tables.proofs.Words.{capacity_of, limit_of, at, Update, replay, erased, inserted}
use Rattle.command_tables.proofs.Words.{refusal_for, World, Moment, accepted, last_of, IsBegin}
use Rattle.command_tables.proofs.Words.{IsAfter, RepresentsMoment, layout_in, IsSettled, Settles}
use Rattle.command_tables.proofs.Words.{CatalogEntries, items_at, items_below, items_of, HoldsBelow}
use Rattle.command_tables.proofs.Words.{AreInsertsOf, has_addresses, is_apart_from, none_overlap}
use Rattle.command_tables.proofs.Words.{some_left, sequence_at_rest, NoLookup, same_readers}
use Rattle.command_tables.proofs.Words.{writes_keep}
use Rattle.std.specs.Prelude.{is_some}
use Rattle.latch_steps.specs.declared.events.Event.TheVariants.{Begin}
use Rattle.latch_steps.specs.declared.replies.Reply.{Reply}
use Rattle.latch_steps.specs.declared.replies.Reply.TheVariants.{Begun, Refused}
use Rattle.latch_steps.specs.WorldSteps.{Does, MayDo}
use Rattle.modules.proofs.ItemLemmas.{one_number_more}
use Rattle.modules.proofs.LoadedItemLemmas.{LoadsItems, erases_none, inserts_accepted}
use Rattle.modules.proofs.LoadedItemLemmas.{inserts_these, is_given, loads_items, none_held}
use Rattle.command_tables.proofs.LoadLemmas.{in_table, one_update_more, table_length}
use Rattle.modules.specs.Loads.{load_of}
use Rattle.command_tables.proofs.table.load.Goals as goal

-- the step that begins the update, from an idle moment on
record Starts (w : World HalfOpen ℕ) (u : Update) (reply : Reply ℕ) (a : Moment ℕ) : Type 0 where
  pub left : ℕ
  pub begun : reply ≡ Begun left
  pub next : Moment ℕ
  pub shows : RepresentsMoment half_open w next
  pub lookups : next.lookups ≡ a.lookups

module _ (c : CatalogEntries) (k : ℕ) (u : Update) (le : k ≤ length c.modules)
    (old new : World HalfOpen ℕ) (h : HoldsBelow c k old) (l : LoadsItems c k u)
    (reply : Reply ℕ) where
  accepts : let w = h.holds.idle.after.moment in
      refusal_for half_open (capacity_of (layout_in old)) (limit_of (layout_in old))
      (is_some w.latch.pending) w.latch.newest_table (at w.latch.words 0) u ≡ None
  accepts =
      let a = h.holds.idle.after in
      let us = h.holds.updates in
      let lay = layout_in old in
      let n = capacity_of lay in
      let table = a.moment.latch.newest_table in
      let seq = at a.moment.latch.words 0 in
      let free : is_some a.moment.latch.pending ≡ false = ap is_some h.holds.idle.rest in
      let is : table ≡ replay half_open [] us = a.sound.table_is in
      let apart : (x i : Item) → Contains table x → Contains (items_at c k) i
      → half_open.apart x i ≡ true =
      λ x i m here. is_apart_from c h.sound k le x i (in_table half_open us (items_below c k)
      h.holds.inserts x (subst (λ t. Contains t x) is m)) here in
      let sizes : length table ≡ length (items_below c k) =
      ap length is ∙ table_length half_open us (items_below c k) h.holds.inserts in
      let some = l.some in
      let below = some_left c h.sound k le in
      let room = h.room.capacity in
      let few = h.holds.inserts.few in
      let most = lay.most in
      let limit = h.room.limit in
      let count = sequence_at_rest half_open n 0 us a.moment.latch a.sound h.holds.idle.rest in
      let fits : length table + length (items_at c k) ≤ n = omega arith in
      let left : seq + 2 ≤ limit_of lay = omega arith in
      let ok = inserts_accepted n (limit_of lay) (items_at c k) table seq some
      (has_addresses c h.sound k le) (none_overlap c h.sound k le) apart fits left in
      ap (λ b. refusal_for half_open n (limit_of lay) b table seq u) free
      ∙ ap (refusal_for half_open n (limit_of lay) false table seq) l.is ∙ ok

  starts : Does half_open old (Begin u) reply new → Starts new u reply h.holds.idle.after.moment
  starts does =
      let a = h.holds.idle.after in
      let (next, step, shows) = does a.moment a.shows in
      let begins =
      subst (λ o. IsBegin half_open (capacity_of (layout_in old)) a.moment u o reply next)
      accepts step in
      record {
        left = begins.0;
        begun = begins.3;
        next = next;
        shows = shows;
        lookups = ap (λ m. m.lookups) begins.4;
      }

  pub refused_for_memory : (why : Refusal) → MayDo half_open old (Begin u) reply new
      → reply ≡ Refused why → why ≡ OutOfMemory
  refused_for_memory why step is =
      ⊎_elim
      (λ does. let s = starts does in
      let e : Begun s.left ≡ Refused why = sym s.begun ∙ is in
      absurd (cc))
      (λ up. let e : Refused why ≡ Refused OutOfMemory = sym is ∙ up.0 in cc)
      step

  begun_unless : ((why : Refusal) → reply ≡ Refused why → ⊥)
      → MayDo half_open old (Begin u) reply new → Starts new u reply h.holds.idle.after.moment
  begun_unless not_refused step =
      ⊎_elim (λ does. starts does) (λ up. absurd (not_refused OutOfMemory up.0)) step

  pub one_module_more : (end : World HalfOpen ℕ) → ((why : Refusal) → reply ≡ Refused why → ⊥)
      → MayDo half_open old (Begin u) reply new
      → layout_in new ≡ layout_in old
      → ((start : ℕ) (us : List Update) → IsAfter half_open start us old
      → IsAfter half_open start (us ++ accepted (Begin u) reply) new)
      → layout_in end ≡ layout_in new
      → ((w : Moment ℕ) → RepresentsMoment half_open new w → Settles half_open new w end)
      → ((start : ℕ) (us : List Update) → IsAfter half_open start us new
      → IsSettled half_open start us end) → HoldsBelow c (k + 1) end
  one_module_more end not_refused step lay after lay' settles settled =
      let a = h.holds.idle.after in
      let us = h.holds.updates in
      let s = begun_unless not_refused step in
      let now : IsAfter half_open 0 (us ++ u ∷ []) new = subst
      (λ r. IsAfter half_open 0 (us ++ accepted (Begin u) r) new) s.begun (after 0 us a) in
      let done = settled 0 (us ++ u ∷ []) now in
      let run = settles s.next s.shows in
      let kept : (last_of s.next run.run).lookups ≡ a.moment.lookups =
      writes_keep half_open _ _ s.next run.run run.writes run.steps ∙ s.lookups in
      let none : NoLookup (last_of s.next run.run) =
      λ r. ap (λ m. get m r) kept ∙ h.holds.idle.no_lookup r in
      let more =
      one_update_more us (items_below c k) (items_at c k) u h.holds.inserts (ap inserted l.is
      ∙ inserts_these (items_at c k)) (ap erased l.is ∙ erases_none (items_at c k)) l.some in
      record {
        sound = h.sound;
        holds = record {
          updates = us ++ u ∷ [];
          idle = record {
            after = done.after;
            rest = done.rest;
            no_lookup = same_readers half_open end (last_of s.next run.run) done.after.moment
                run.shows done.after.shows none;
          };
          inserts = subst (AreInsertsOf (us ++ u ∷ [])) (sym (one_number_more c k)) more;
        };
        room = record {
          capacity =
              subst (λ y. length (items_of c) ≤ capacity_of y) (sym (lay' ∙ lay)) h.room.capacity;
          limit = ap limit_of (lay' ∙ lay) ∙ h.room.limit;
        };
      }

pub returns-in-Refused-clause-refusal : goal.returns-in-Refused-clause-refusal
returns-in-Refused-clause-refusal c =
    let catalog = c.args.catalog.now in
    let l = loads_items catalog c.args.number c.in_ok-update.update c.requires.holds.sound
    (is_given (load_of catalog c.args.number none_held) c.load.result c.in_ok-update.update
    c.load.ensures c.in_ok-update.was) in
    refused_for_memory catalog c.args.number c.in_ok-update.update c.requires.modules
    c.args.world.now c.step.new.self c.requires.holds l c.step.result c.in-Refused.why
    c.step.ensures.steps c.in-Refused.is

pub returns-clause-holds : goal.returns-clause-holds
returns-clause-holds c =
    let catalog = c.args.catalog.now in
    let l = loads_items catalog c.args.number c.in_ok-update.update c.requires.holds.sound
    (is_given (load_of catalog c.args.number none_held) c.load.result c.in_ok-update.update
    c.load.ensures c.in_ok-update.was) in
    one_module_more catalog c.args.number c.in_ok-update.update c.requires.modules c.args.world.now
    c.step.new.self c.requires.holds l c.step.result c.settle.new.self c.in_default.not-Refused
    c.step.ensures.steps c.step.ensures.layout c.step.ensures.after c.settle.ensures.layout
    c.settle.ensures.settles c.settle.ensures.settled
