-- What a table shows at each generation.
use Rattle.follower.proofs.Words.{Begins, half_open, ◌≡◌, ℕ, suc, ◌+◌, ◌-◌, ◌*◌, ◌≤◌, List, [], ◌∷◌}
use Rattle.follower.proofs.Words.{◌++◌, length, take, Option, Some, None, refl, sym, ap, subst, ◌∙◌}
use Rattle.follower.proofs.Words.{arith, Contains-permutation, IsPermutation-sym, IsSoundCatalog}
use Rattle.follower.proofs.Words.{CatalogEntries, IsIndexOf, DatedCatalog, Moment, DropsOldest}
use Rattle.follower.proofs.Words.{EachStands, Forgets, BeginsMoment, BeginsToShow, IsBegun}
use Rattle.follower.proofs.Words.{IsFollowed, IsShownAt, generation_of, no_change, table_at}
use Rattle.follower.proofs.Words.{PassesMoment}
use Rattle.std.proofs.lemmas.List.{length-append, take-append-le, take_all}
use Rattle.order_laws.specs.declared.items.Item.{Item}
use Rattle.order_laws.specs.Tables.{IsLook, look, without_all}
use Rattle.order_laws.proofs.HalfOpenLemmas.{begins, ends, equal_inside}
use Rattle.order_laws.proofs.TableLemmas.{look_is, same_look}
use Rattle.table_updates.specs.declared.updates.Update.{Update}
use Rattle.table_updates.specs.Updates.{replay}
use Rattle.modules.specs.Items.{item_of_address, items_of}
use Rattle.modules.proofs.ApartItemLemmas.{none_found, some_found}
use Rattle.latch_core.specs.Invariants.{IsPendingOf, IsSound}
use Rattle.latch_core.specs.Replacements.{replacement}
use Rattle.latch_core.proofs.SoundLemmas.{replay_push}
use Rattle.latch_core.specs.Sequences.{generation_of as sequence_generation}
use Rattle.word_layout.specs.Words.{at}
use Rattle.order_laws.specs.declared.refusals.Refusal.{Refusal}
use Rattle.std.specs.Prelude.{IfOk, OnErr, Result, Ok, Err}
use Rattle.latch_table.specs.Adding.{AddsReader}
use Rattle.latch_table.specs.Enlarging.{Enlarges}
use Rattle.latch_table.specs.Readers.{ReaderState}
use Rattle.std.specs.Global.{Vec}
use Rattle.word_layout.specs.declared.layouts.Layout.{Layout}
use Rattle.latch_table.specs.Replacing.{BeginsReplacing}
use Rattle.latch_table.specs.Writers.{Finishes, WriterState, state_with_update}
use Rattle.follower.proofs.CatalogLemmas.{newest_too, right_too, stand_on, still_stands}

-- the items of a catalog in another order have at each address what the catalog has
index_looks : (c : CatalogEntries) (items : List Item) → IsSoundCatalog c → IsIndexOf c items
    → (addr : ℕ) → look half_open addr items ≡ item_of_address c addr
index_looks c items sound index addr =
    found (look half_open addr items)
    (same_look half_open addr items (items_of c) (look half_open addr items) (λ x m.
    Contains-permutation items (items_of c) x (IsPermutation-sym (items_of c) items index.same)
    m) (λ x m. Contains-permutation (items_of c) items x index.same m)
    (look_is half_open addr items))
  where
    found : (r : Option Item) → IsLook half_open addr (items_of c) r → r ≡ item_of_address c addr
    found None h = none_found c sound addr (item_of_address c addr)
        (λ y m le lt. h y m (equal_inside addr y le lt)) (look_is half_open addr (items_of c))
    found (Some i) h = some_found c sound addr i (item_of_address c addr) h.0 (begins addr i h.1)
        (ends addr i h.1) (look_is half_open addr (items_of c))

-- how many readers a table has makes no difference
pub other_readers : (w w' : WriterState) (n : ℕ) (ds : List DatedCatalog)
    → w' ≡ record w { readers = n } → IsFollowed w ds → IsFollowed w' ds
other_readers w w' n ds is followed =
    subst (λ (x : WriterState). IsFollowed x ds) (sym is)
    (record { rests = followed.rests; stands = followed.stands })

pub reader_added : (w w' : WriterState) (ds : List DatedCatalog)
    (added : Result ReaderState Refusal) → IfOk added (AddsReader w w') → OnErr added (w' ≡ w)
    → IsFollowed w ds → IsFollowed w' ds
reader_added w w' ds (Ok r) adds same followed =
    other_readers w w' (w.readers + 1) ds adds.writer followed
reader_added w w' ds (Err e) adds same followed =
    subst (λ (x : WriterState). IsFollowed x ds) (sym same) followed

-- in larger words the tables of all generations stay, and no update is pending
in_larger_words : (w w' : WriterState) (l : Layout) (all : List ReaderState)
    (ds : List DatedCatalog) → Enlarges w l w' all → IsFollowed w ds → IsFollowed w' ds
in_larger_words w w' l all ds moves followed =
    subst (λ (x : WriterState). IsFollowed x ds) (sym moves.state)
    (record { rests = rw followed.rests refl; stands = followed.stands })

pub enlarged : (w w' : WriterState) (l : Layout) (ds : List DatedCatalog)
    (moved : Result (Vec ReaderState) Refusal) → IfOk moved (λ all. Enlarges w l w' all.items)
    → OnErr moved (w' ≡ w) → IsFollowed w ds → IsFollowed w' ds
enlarged w w' l ds (Ok all) moves same followed = in_larger_words w w' l all.items ds moves followed
enlarged w w' l ds (Err e) moves same followed =
    subst (λ (x : WriterState). IsFollowed x ds) (sym same) followed

-- one update more leaves the table of each generation before it
module _ (w w' : WriterState) (u : Update) (base : w'.base ≡ w.base)
    (history : w'.history ≡ w.history ++ u ∷ []) where
  pub same_before : (g : ℕ) → g ≤ generation_of w → table_at w' g ≡ table_at w g
  same_before g le =
      ap (λ us. replay half_open [] (take (g - w'.base) us)) history
      ∙ ap (λ b. replay half_open [] (take (g - b) (w.history ++ u ∷ []))) base
      ∙ ap (replay half_open []) (take-append-le (g - w.base) w.history (u ∷ []) (omega arith))

  pub one_more : generation_of w' ≡ suc (generation_of w)
  one_more = omega (arith, base, ap length history, length-append w.history (u ∷ []))

-- the table of the last generation is that of the whole history
table_now : (w : WriterState) → table_at w (generation_of w) ≡ replay half_open [] w.history
table_now w =
    ap (replay half_open []) (take_all (w.base + length w.history - w.base) w.history (omega arith))

-- a table that a catalog's regions replaced shows that catalog, and the others as before
module _ (w p w' : WriterState) (d : DatedCatalog) (ds ds' : List DatedCatalog) (g : ℕ)
    (sound : IsSoundCatalog d.catalog) (is : BeginsToShow d w p ds ds')
    (end : Finishes p w' g) where
  u : Update
  u = replacement w.latch.newest_table is.items

  same_base : w'.base ≡ w.base
  same_base = ap (λ (x : WriterState). x.base) end.0
      ∙ ap (λ (x : WriterState). x.base) is.begun.replaces.begins.1.3

  same_history : w'.history ≡ p.history
  same_history = ap (λ (x : WriterState). x.history) end.0

  more : w'.history ≡ w.history ++ u ∷ []
  unfolding u
  more = same_history ∙ ap (λ (x : WriterState). x.history) is.begun.replaces.begins.1.3

  shown_now : IsShownAt w' (generation_of w') d.catalog
  shown_now addr = ap (look half_open addr) (table_now w' ∙ ap (replay half_open []) same_history
      ∙ is.begun.reaches) ∙ index_looks d.catalog is.items sound is.indexed addr

  as_before : (h : ℕ) (c : CatalogEntries) → h ≤ generation_of w → IsShownAt w h c
      → IsShownAt w' h c
  as_before h c le shown addr =
      ap (look half_open addr) (same_before w w' u same_base more h le) ∙ shown addr

  next : generation_of w' ≡ suc (generation_of w)
  next = one_more w w' u same_base more

  pub follows_on : EachStands (IsShownAt w) (generation_of w) ds
      → EachStands (IsShownAt w') (generation_of w') ds'
  follows_on followed =
      subst (EachStands (IsShownAt w') (generation_of w')) (sym is.kept)
      (subst (λ k. EachStands (IsShownAt w') k (ds ++ d ∷ [])) (sym next)
      (newest_too (IsShownAt w') (generation_of w) ds d is.begun.before (right_too (IsShownAt w)
      (IsShownAt w') (generation_of w) ds (λ h c le shown. as_before h c le shown) followed)
      (subst (λ k. IsShownAt w' k d.catalog) next shown_now)))

-- without the oldest the others stand as before
pub without_oldest : (w : WriterState) (old new : List DatedCatalog) (tag : Option ℕ)
    → DropsOldest old new tag → IsFollowed w old → IsFollowed w new
without_oldest w old new None d f = subst (IsFollowed w) (d.0 ∙ sym d.1) f
without_oldest w old new (Some tag) d f = record {
  rests = f.rests;
  stands = still_stands (IsShownAt w) (generation_of w) d.0 new
      (subst (EachStands (IsShownAt w) (generation_of w)) d.1 f.stands);
}

pub forgotten : (w : WriterState) (m : Moment) (old new : List DatedCatalog) (tag : Option ℕ)
    → Forgets m old new tag → IsFollowed w old → IsFollowed w new
forgotten w m old new None d f = subst (IsFollowed w) (sym d.0) f
forgotten w m old new (Some tag) d f =
    without_oldest w old new (Some tag) (d.oldest, d.gone, d.told) f

-- while no flip is made the sequence is that of the generation before
not_flipped : (w p : WriterState) (u : Update) → Begins half_open w u p
    → IsSound half_open p.capacity (2 * p.base) p.history p.latch
    → sequence_generation (at p.latch.words 0) ≡ generation_of w
not_flipped w p u b sound =
    let begun = state_with_update half_open w u b.1.0 in
    let hand : IsPendingOf half_open (2 * w.base) (at w.latch.words 0) (w.history ++ u ∷ [])
    begun.latch.pending =
    subst (λ (x : WriterState). IsPendingOf half_open (2 * x.base) (at x.latch.words 0) x.history
    x.latch.pending) b.1.3 sound.in_hand in
    ap (λ (x : WriterState). sequence_generation (at x.latch.words 0)) b.1.3
    ∙ omega (arith, hand.count, length-append w.history (u ∷ []))

pub begun_so : (w p : WriterState) (items : List Item) (b : BeginsReplacing half_open w items p)
    (sound : IsSound half_open p.capacity (2 * p.base) p.history p.latch) (previous : ℕ)
    → previous ≡ sequence_generation (at p.latch.words 0) → IsBegun w items p previous
begun_so w p items b sound previous is = record {
  replaces = b;
  reaches = sym sound.table_is ∙ b.newest;
  before = is ∙ not_flipped w p (replacement w.latch.newest_table items) b.begins sound;
}

pub moment_begun_so : (w p : WriterState) (u : Update) → u ≡ no_change → Begins half_open w u p
    → IsSound half_open p.capacity (2 * p.base) p.history p.latch → (previous : ℕ)
    → previous ≡ sequence_generation (at p.latch.words 0) → BeginsMoment w p previous
moment_begun_so w p u none b sound previous is =
    record {
      begins = subst (λ v. Begins half_open w v p) none b;
      before = is ∙ not_flipped w p u b sound;
    }

pub passes_moment : (w p w' : WriterState) (previous g : ℕ) → BeginsMoment w p previous
    → Finishes p w' g → PassesMoment w w' g
passes_moment w p w' previous g is end =
    record { pending = p; begun = record { begins = is.begins; before = refl }; finished = end }

-- an update that changes nothing leaves the table
none_erased : (table : List Item) → without_all [] table ≡ table
none_erased [] = refl
none_erased (x ∷ xs) = ap (λ l. x ∷ l) (none_erased xs)

-- where no update but such a one comes, each catalog is shown as before
module _ (w p w' : WriterState) (previous g : ℕ) (ds : List DatedCatalog)
    (is : BeginsMoment w p previous) (end : Finishes p w' g) where
  base_stays : w'.base ≡ w.base
  base_stays =
      ap (λ (x : WriterState). x.base) end.0 ∙ ap (λ (x : WriterState). x.base) is.begins.1.3

  one_moment : w'.history ≡ w.history ++ no_change ∷ []
  one_moment =
      ap (λ (x : WriterState). x.history) end.0 ∙ ap (λ (x : WriterState). x.history) is.begins.1.3

  moment_next : generation_of w' ≡ suc (generation_of w)
  moment_next = one_more w w' no_change base_stays one_moment

  table_stays : table_at w' (generation_of w') ≡ table_at w (generation_of w)
  table_stays =
      table_now w' ∙ ap (replay half_open []) one_moment
      ∙ replay_push half_open [] w.history no_change
      ∙ none_erased (replay half_open [] w.history) ∙ sym (table_now w)

  shown_before : (h : ℕ) (c : CatalogEntries) → h ≤ generation_of w → IsShownAt w h c
      → IsShownAt w' h c
  shown_before h c le shown addr =
      ap (look half_open addr) (same_before w w' no_change base_stays one_moment h le) ∙ shown addr

  shown_after : (c : CatalogEntries) → IsShownAt w (generation_of w) c
      → IsShownAt w' (suc (generation_of w)) c
  shown_after c shown addr = ap (look half_open addr)
      (subst (λ k. table_at w' k ≡ table_at w (generation_of w)) moment_next table_stays)
      ∙ shown addr

  pub passes_on : IsFollowed w ds → IsFollowed w' ds
  passes_on followed = record {
    rests = end.1;
    stands = subst (λ k. EachStands (IsShownAt w') k ds) (sym moment_next)
        (stand_on (IsShownAt w') (generation_of w) ds (right_too (IsShownAt w) (IsShownAt w')
        (generation_of w) ds (λ h c le shown. shown_before h c le shown) followed.stands)
        (IsShownAt w) (λ c shown. shown_after c shown) followed.stands);
  }
