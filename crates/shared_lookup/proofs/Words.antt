-- The words that the proofs of this crate use, of whatever crate.
pub use Rattle.std.proofs.Common.{◌≡◌, ℕ, suc, Bool, true, false, List, [], ◌∷◌, length, take}
pub use Rattle.std.proofs.Common.{subst, sym, Option, Some, None, refl, ap, inl, inr, ⊎_elim, arith}
pub use Rattle.std.proofs.Common.{cond, zero, ◌+◌, ◌-◌, ◌^◌, ◌<◌, ◌++◌, map, drop, get_or, min, ◌∙◌}
pub use Rattle.std.proofs.Common.{length-append, ◌*◌, set, append_assoc, length-drop, rules}
pub use Rattle.std.proofs.Common.{length-set}
pub use Rattle.std.proofs.lemmas.List.{take_more, take_all, take_more_set, take-append-le}
pub use Rattle.std.proofs.lemmas.List.{length-take-le}
pub use Rattle.std.proofs.lemmas.List.Elements.{All-nil, All-push, All-pop}
pub use Rattle.std.proofs.lemmas.List.Sorted.{IsNonDecreasingBy-push, IsNonDecreasingBy-short}
pub use Rattle.std.proofs.lemmas.List.Sorted.{IsNonDecreasingBy-from_sort_by_key, IsPermutation-map}
pub use Rattle.std.proofs.lemmas.List.Sums.{sum_by-cons, count_by_more_no, count_by_more_yes}
pub use Rattle.std.proofs.lemmas.Option.{slice_get_within, get_or_from_slice_get}
pub use Rattle.std.specs.Borrow.{Bor}
pub use Rattle.std.specs.Global.{Vec}
pub use Rattle.std.specs.List.{range_with_len}
pub use Rattle.std.specs.Option.{ForSome}
pub use Rattle.std.specs.Prelude.{All, count_by, nat_lt, not, ◌||◌, IfOk, Ok, Err, Result, ◌⊎◌}
pub use Rattle.std.specs.Prelude.{IfErr, IfSome, OnErr, is_some, vec_capacity, vec_len, zip}
pub use Rattle.std.specs.Prelude.{slice_get}
pub use Rattle.std.specs.Vec.Iter.{into_iter_items}
pub use mathlib.Core.List.{IsPrefix}
pub use Rattle.atomic_table.specs.Seated.{TableId}
pub use Rattle.facts.proofs.Lists.{take-append_whole, slice_get-push_cases, slice_get-between}
pub use Rattle.facts.proofs.Lists.{slice_get_some, length-map_same, length-map_same_at}
pub use Rattle.facts.proofs.Pairs.{both_pushed, zip-append, take-zip_more}
pub use Rattle.facts.proofs.Ranges.{range-push, range-append_from_zero}
pub use Rattle.latch_core.specs.Invariants.{IsSound, IsPendingOf}
pub use Rattle.latch_table.specs.Memory.{memory_after, Looked}
pub use Rattle.latch_table.specs.Readers.{ReaderState, Searched, new_reader}
pub use Rattle.latch_table.specs.Writers.{WriterState, shown_updates, writer_refusal, OnTheWay}
pub use Rattle.latch_table.specs.Writers.{steps_left_of}
pub use Rattle.latch_table.specs.declared.readers.Try.TheVariants.{Answered, Retry}
pub use Rattle.modules.specs.Entries.{CatalogEntries}
pub use Rattle.order_laws.specs.Orders.{half_open}
pub use Rattle.order_laws.specs.Tables.{look}
pub use Rattle.order_laws.specs.declared.items.Item.{Item}
pub use Rattle.order_laws.specs.declared.refusals.Refusal.{Refusal}
pub use Rattle.shared_lookup.specs.Checks.{answers_at, is_same_item, is_wrong_answer, with_log}
pub use Rattle.shared_lookup.specs.Checks.{IsTalliedBy, AreTallied, no_reference}
pub use Rattle.shared_lookup.specs.Counts.{Counts, CountsUpTo}
pub use Rattle.shared_lookup.specs.Followings.{AreMade, count_after, FollowKnown, FollowLog, IsHeld}
pub use Rattle.shared_lookup.specs.Followings.{IsMadeBeside, IsOpenedAs, IsOutcomeBehind}
pub use Rattle.shared_lookup.specs.Followings.{IsServedLedger, EachFollowsLog}
pub use Rattle.shared_lookup.specs.Ledgers.{LedgerState, AreAccepted, HasNothingPending, IsLedger}
pub use Rattle.shared_lookup.specs.Ledgers.{ledger_of, IsNamed, with_entry, with_first, CarriesOut}
pub use Rattle.shared_lookup.specs.Ledgers.{ledger_sequence, refusal_at}
pub use Rattle.shared_lookup.specs.Readers.{known_by, AreLookedUp, HasLooked, HasMet, IsLookedUp}
pub use Rattle.shared_lookup.specs.Readers.{seen_by, IsNewReaderOf, IsHeard, IsReaderOf}
pub use Rattle.shared_lookup.specs.Readers.{EachHasLooked}
pub use Rattle.shared_lookup.specs.Servings.{EachIsFoundIn, IsFoundIn, IsWrongAnswer, entries}
pub use Rattle.shared_lookup.specs.Servings.{AreAsLong, ChangeOutcome, EachHasOutcome, AreNotMade}
pub use Rattle.shared_lookup.specs.Servings.{HasOutcomes, AreFoundIn, AreAnswered, EachIsAnswered}
pub use Rattle.shared_lookup.specs.Servings.{IsWrongChange, IsWrongEntry, has_generation}
pub use Rattle.shared_lookup.specs.Servings.{IsWrongCount, IsAnswerTo}
pub use Rattle.shared_lookup.specs.Threads.{AreAllMade, AreHeard, AreChanging, AreReading, HaveRoom}
pub use Rattle.shared_lookup.specs.declared.changes.Change.{Change}
pub use Rattle.shared_lookup.specs.declared.served.Answer.{Answer}
pub use Rattle.shared_lookup.specs.declared.threads.ChangeResults.{ChangeResults}
pub use Rattle.shared_lookup.specs.declared.threads.LookupResults.{LookupResults}
pub use Rattle.table_updates.specs.Updates.{replay, refusal_for}
pub use Rattle.table_updates.specs.declared.updates.Update.{Update}
pub use Rattle.word_layout.specs.declared.layouts.Layout.{Layout}
