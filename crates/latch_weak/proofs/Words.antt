-- The words that the proofs of this crate use, of whatever crate.
pub use Rattle.std.proofs.Common.{◌≡◌, ◌≢◌, ℕ, suc, zero, ◌+◌, ◌-◌, ◌<◌, ◌≤◌, true, false, cond}
pub use Rattle.std.proofs.Common.{Bool, List, [], ◌∷◌, length, get_or, sym, ◌∙◌, ap, arith, take}
pub use Rattle.std.proofs.Common.{get_or-set_other, get_or-set_same, Option, Some, None, refl}
pub use Rattle.std.proofs.Common.{subst, inl, inr, ⊎_elim, ◌++◌, set, length-set, append_assoc}
pub use Rattle.std.proofs.Common.{append-nil, ◌*◌, rules}
pub use Rattle.std.proofs.lemmas.Bool.{cases_lt, eqb-true, eq-eqb, cases_Bool, eqb-false, cases_eq}
pub use Rattle.std.proofs.lemmas.List.{take_more, take_all, take-append-le}
pub use Rattle.std.specs.Prelude.{◌⊎◌, ◌==◌, ◌&&◌, max, nat_lt, ◌||◌, Result, Ok, Err, IfErr}
pub use Rattle.std.specs.Prelude.{IsErrAnd, slice_get, map, is_some}
pub use Rattle.std.specs.declared.cmp.Ordering.TheVariants.{Less, Equal, Greater}
pub use Rattle.latch_core.proofs.ReadingLemmas.{AllLoads}
pub use Rattle.latch_core.proofs.SoundLemmas.{hidden_same, attempt_uses, sound_opening, gen_within}
pub use Rattle.latch_core.proofs.SoundLemmas.{sound_step, sound_begin}
pub use Rattle.latch_core.specs.Attempts.{Answer, Again, Reading, Load, Ends, WalkEnd, AtItem}
pub use Rattle.latch_core.specs.Attempts.{AtEmptyLink, Stuck, last_load, after_item, visit, walk}
pub use Rattle.latch_core.specs.Attempts.{rest_after, Stand, attempt_after, attempt, Outcome}
pub use Rattle.latch_core.specs.Attempts.{outcome, IsAttempt}
pub use Rattle.latch_core.specs.Histories.{table_at, current_table}
pub use Rattle.latch_core.specs.Latches.{opening_latch, PendingUpdate, Latch, IsWriterStep}
pub use Rattle.latch_core.specs.Latches.{latch_after_step, latch_with_update, IsHidden}
pub use Rattle.latch_core.specs.Sequences.{generation_of, stable_copy_of}
pub use Rattle.latch_core.specs.Writers.{next_store, why_refused, writer_after_step}
pub use Rattle.latch_core.specs.Writers.{RefusesAsRepresented, MayBeNext, StoresNext, HasBegun}
pub use Rattle.latch_core.specs.Writers.{latch_refusal, opening_writer}
pub use Rattle.latch_weak.specs.Barriers.{is_of_word, past_last, last_store, is_barrier}
pub use Rattle.latch_weak.specs.Barriers.{ordered_before, linux, last_barrier, of_flip, value_of}
pub use Rattle.latch_weak.specs.Loads.{value_at, AreLoads, values_seen, IsWeakAttempt, view_left}
pub use Rattle.latch_weak.specs.Loads.{view_after}
pub use Rattle.latch_weak.specs.Needed.{IsWrong, MissesLow, without_last, missed_at, low, middle}
pub use Rattle.latch_weak.specs.Needed.{the_run}
pub use Rattle.latch_weak.specs.Recordings.{WorksTo, HasMade, writer_after_all, CarriesOut}
pub use Rattle.latch_weak.specs.Recordings.{CarriesOutAll, Continues, RefusesRecording}
pub use Rattle.latch_weak.specs.Views.{View, Glance, after_load, before_load, seen_up_to}
pub use Rattle.latch_weak.specs.Views.{after_first, MayLoad, raised}
pub use Rattle.latch_weak.specs.Weak.{IsWeaklySafe, AreRising, NoneAfter, ReturnsWithoutFlip}
pub use Rattle.latch_weak.specs.Weak.{AllMade, ReturnsAtOnce, IsSafeWhereRising, WasCurrent}
pub use Rattle.latch_weak.specs.Weak.{IsRightFromMemory, NeverFalls}
pub use Rattle.latch_weak.specs.Works.{words_at, Deed, stores_of, updates_of, Begins, Stores, Works}
pub use Rattle.latch_weak.specs.declared.barriers.Barriers.{Barriers}
pub use Rattle.order_laws.specs.Orders.{Order, half_open, IsLawful}
pub use Rattle.order_laws.specs.Tables.{look, IsTable, IsLook}
pub use Rattle.order_laws.specs.declared.items.Item.{Item}
pub use Rattle.table_updates.specs.Updates.{replay, most_steps, refusal_for}
pub use Rattle.table_updates.specs.declared.updates.Update.{Update}
pub use Rattle.word_layout.specs.Layouts.{capacity_of, limit_of}
pub use Rattle.word_layout.specs.Stores.{words_after, words_after_all, IsItemWord, AreLinkStores}
pub use Rattle.word_layout.specs.Words.{at, InUse, a_word, b_word, tag_word, words_for, Nodes, none}
pub use Rattle.word_layout.specs.Words.{fork, Holds, IsUnreached, HoldsTable}
pub use Rattle.word_layout.specs.declared.stores.Store.{Store}
