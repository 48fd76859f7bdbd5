-- The words that the proofs of this crate use, of whatever crate.
pub use Rattle.std.proofs.Common.{◌≡◌, ℕ, ◌+◌, ◌<◌, ◌≤◌, List, [], ◌∷◌, ◌++◌, length, None, ap}
pub use Rattle.std.proofs.Common.{subst, arith, length-append, ◌≢◌, take, refl, sym, ◌∙◌, inl, inr}
pub use Rattle.std.proofs.Common.{true, false, drop, get_or, append_assoc, Some, suc, zero, ⊎_elim}
pub use Rattle.std.proofs.Common.{cond, ◌%◌, length-set, Option, get_or-set_other, ◌^◌}
pub use Rattle.std.proofs.Common.{get_or-set_same, IsTrue, rules, true≢false, length-drop}
pub use Rattle.std.proofs.lemmas.Bool.{ltb-false, or_parts, not-false, ne_eqb, lt-ltb, and_parts}
pub use Rattle.std.proofs.lemmas.Bool.{and_from, cases_lt, eqb-true, false_from_ne_true}
pub use Rattle.std.proofs.lemmas.Bool.{true_from_ne_false, eqb-false, ltb-true, cases_eq}
pub use Rattle.std.proofs.lemmas.Bool.Decides.{nat_tests}
pub use Rattle.std.proofs.lemmas.List.{length-map, take-append-le, take_all, map-append, take_more}
pub use Rattle.std.proofs.lemmas.List.{drop_more, drop_all, take-append-drop, get_or-replicate}
pub use Rattle.std.proofs.lemmas.List.{length-replicate}
pub use Rattle.std.proofs.lemmas.List.Elements.{All-append, All-cons, All-from_recursion}
pub use Rattle.std.proofs.lemmas.List.Elements.{Contains-append_right, All-contains_itself}
pub use Rattle.std.proofs.lemmas.List.Elements.{recursion_from_All, All-nil, All-push, All-weaker}
pub use Rattle.std.proofs.lemmas.List.Elements.{All-head, Contains-append_left, All-contains}
pub use Rattle.std.proofs.lemmas.List.Elements.{All-filter, filter_passes}
pub use Rattle.std.proofs.lemmas.List.Sorted.{IsPermutation-trans, IsPermutation-append_left}
pub use Rattle.std.proofs.lemmas.List.Sorted.{IsPermutation-append_comm, IsPermutation-swap_remove}
pub use Rattle.std.proofs.lemmas.List.Sorted.{IsPermutation-insert, IsPermutation-remove}
pub use Rattle.std.proofs.lemmas.List.Sorted.{IsPermutation-append_right, All-permutation}
pub use Rattle.std.proofs.lemmas.List.Sorted.{length_permutation, IsPermutation-sym}
pub use Rattle.std.proofs.lemmas.List.Sorted.{IsNonDecreasingBy-drop, list_any-IsPermutation}
pub use Rattle.std.proofs.lemmas.List.Sorted.{IsNonDecreasingBy-from_sort_by_key}
pub use Rattle.std.proofs.lemmas.List.Sorted.{IsNonDecreasingBy-from_sort}
pub use Rattle.std.proofs.lemmas.Map.Keys.{IsDistinct-IsPermutation, IsDistinct-push}
pub use Rattle.std.proofs.lemmas.Map.Keys.{IsDistinct-head}
pub use Rattle.std.proofs.lemmas.Option.{slice_get_within, slice_get-get_or, get_or_from_slice_get}
pub use Rattle.std.proofs.lemmas.Option.{slice_get_past}
pub use Rattle.std.specs.List.{AllByRecursion, list_any, swap_remove, list_all}
pub use Rattle.std.specs.List.Sorted.{IsPermutation, IsNonDecreasingBy}
pub use Rattle.std.specs.Prelude.{All, insert, Contains, not, ◌==◌, nat_eq, remove, slice_get, Bool}
pub use Rattle.std.specs.Prelude.{◌||◌, nat_lt, ◌&&◌, ◌⊎◌, filter, replicate, MatchOption, is_some}
pub use Rattle.std.specs.Prelude.{slice_set, IfSome}
pub use Rattle.std.specs.declared.cmp.Ordering.TheVariants.{Less, Equal, Greater}
pub use Rattle.facts.proofs.Bools.{same_by_false, false_by_contrary}
pub use Rattle.facts.proofs.Each.{all_append, all_weaker, all_left, all_right, all_at, all_drop}
pub use Rattle.facts.proofs.Each.{all_not_below, rest_in_order, all_from}
pub use Rattle.facts.proofs.Lists.{take-swap_remove, pushed_before, nil-from_length, first_and_rest}
pub use Rattle.facts.proofs.Numbers.{eqb-flip, eqb-false_wider, ltb-false_wider}
pub use Rattle.facts.proofs.Tests.{all_fail, list_any-above, list_any-all_fail}
pub use Rattle.latch_core.specs.Attempts.{Reading, Load, Ends, Outcome, Answer, attempt, rest_after}
pub use Rattle.latch_core.specs.Attempts.{IsAttempt, Stand, WalkEnd, outcome, last_load, after_item}
pub use Rattle.latch_core.specs.Attempts.{visit, walk, attempt_after, Again, AtItem, AtEmptyLink}
pub use Rattle.latch_core.specs.Attempts.{after_a, after_b, Stuck}
pub use Rattle.latch_core.specs.Changes.{PlacedItems, stores_of_placed, AreInPlace, RelinksBoth}
pub use Rattle.latch_core.specs.Changes.{ErasesWords, InsertsItems, RelinksCopy}
pub use Rattle.latch_core.specs.FreeNodes.{AreAllNodes}
pub use Rattle.latch_core.specs.Histories.{table_at, current_table}
pub use Rattle.latch_core.specs.Invariants.{IsPendingUpdate, IsPendingOf, IsSound, IsStanding}
pub use Rattle.latch_core.specs.Invariants.{AreTables}
pub use Rattle.latch_core.specs.Latched.{loads_of, IsKept, StandAll, IsSteady, IsLatched}
pub use Rattle.latch_core.specs.Latches.{Latch, PendingUpdate, IsHidden, IsWriterStep, flips_after}
pub use Rattle.latch_core.specs.Latches.{latch_after_step, latch_with_update, opening_latch}
pub use Rattle.latch_core.specs.Latches.{BothHold, IsFirstFlip, IsSecondFlip}
pub use Rattle.latch_core.specs.Loading.{IsReady, HasLoaded, HasTried, found_by}
pub use Rattle.latch_core.specs.Plans.{flip_to, update_stores, IsPlan}
pub use Rattle.latch_core.specs.Replacements.{is_same, not_among, replacement, is_rising}
pub use Rattle.latch_core.specs.Replacements.{update_found, Tells}
pub use Rattle.latch_core.specs.Sequences.{stable_copy_of, generation_of}
pub use Rattle.latch_core.specs.Whole.{outcome_in, loads_in, outcome_of}
pub use Rattle.latch_core.specs.Widening.{why_not_widened, widened_writer, widened_latch}
pub use Rattle.latch_core.specs.Widening.{RepresentsWidened}
pub use Rattle.latch_core.specs.WriterViews.{WriterView}
pub use Rattle.latch_core.specs.Writers.{IsMemoryAtRest, HasBegun, AreInStep, why_refused}
pub use Rattle.latch_core.specs.Writers.{has_pending, IsShallow, StaysShallow, RepresentsLatch}
pub use Rattle.latch_core.specs.Writers.{next_store, sequence_after, writer_after_step}
pub use Rattle.latch_core.specs.Writers.{opening_writer}
pub use Rattle.latch_core.specs.declared.progress.AwaitedValue.TheVariants.{First, Root, WordA}
pub use Rattle.latch_core.specs.declared.progress.AwaitedValue.TheVariants.{WordB, Tag, Left, Right}
pub use Rattle.latch_core.specs.declared.progress.AwaitedValue.TheVariants.{Found, Missing}
pub use Rattle.latch_core.specs.declared.replacements.Difference.{Difference}
pub use Rattle.order_laws.proofs.MeetLemmas.{no_meeting, not_meeting}
pub use Rattle.order_laws.proofs.PlaceLemmas.{without_none, without_one}
pub use Rattle.order_laws.proofs.TableLemmas.{with_item_table, without_table, length_with_item}
pub use Rattle.order_laws.proofs.TableLemmas.{length_without, parted, look_less, look_greater}
pub use Rattle.order_laws.proofs.TableLemmas.{look_equal}
pub use Rattle.order_laws.proofs.WithoutLemmas.{all_has_without, length_without_one, without_more}
pub use Rattle.order_laws.proofs.WithoutLemmas.{length_without_all, without_all_table}
pub use Rattle.order_laws.specs.Orders.{Order, IsLawful, IsInLine, Precedes}
pub use Rattle.order_laws.specs.Tables.{place_for, place_of, without, without_all, with_item, has}
pub use Rattle.order_laws.specs.Tables.{meets, look, IsTable}
pub use Rattle.order_laws.specs.declared.items.Item.{Item}
pub use Rattle.order_laws.specs.declared.refusals.Refusal.TheVariants.{BadItem, Overlap, NoSuchItem}
pub use Rattle.order_laws.specs.declared.refusals.Refusal.TheVariants.{Full, UpdateInHand}
pub use Rattle.order_laws.specs.declared.refusals.Refusal.TheVariants.{SequenceSpent, OutOfMemory}
pub use Rattle.order_laws.specs.declared.refusals.Refusal.TheVariants.{BadCapacity}
pub use Rattle.rb_trees.proofs.DepthLemmas.{balanced_none, balanced_depth}
pub use Rattle.rb_trees.specs.Trees.{IsBalanced, depth}
pub use Rattle.rb_words.specs.Mirrors.{mirror_stores, mirror_store, second_picture}
pub use Rattle.rb_words.specs.Pictures.{Picture, IsPictured}
pub use Rattle.rb_words.specs.Plans.{Inserts, Erases, LeadsWithItem, LeadsByLinks, item_stores}
pub use Rattle.rb_words.specs.Rows.{AreDistinct}
pub use Rattle.rb_words.specs.declared.shapes.TheConstants.{STORES}
pub use Rattle.table_updates.proofs.BatchLemmas.{AreApart, AreOff, all_valid, all_apart, all_off}
pub use Rattle.table_updates.proofs.BatchLemmas.{still_off, with_items_table, length_with_items}
pub use Rattle.table_updates.specs.Updates.{after, size_of, some_missing, some_twice, with_items}
pub use Rattle.table_updates.specs.Updates.{some_invalid, some_overlap, some_meet, first_that_holds}
pub use Rattle.table_updates.specs.Updates.{failed_test, replay, refusal_for, Test, tests_of}
pub use Rattle.table_updates.specs.declared.updates.Update.{Update}
pub use Rattle.table_updates.specs.declared.updates.Update.TheVariants.{Batch, Insert, Erase}
pub use Rattle.word_layout.proofs.HoldsLemmas.{tree_untouched, holds_on, flip_same, flip_adds}
pub use Rattle.word_layout.proofs.HoldsLemmas.{holds_untouched, tree_agree, size, size_items}
pub use Rattle.word_layout.proofs.HoldsLemmas.{size_listed}
pub use Rattle.word_layout.proofs.LinkLemmas.{links_in_range, same_item, reaches_on}
pub use Rattle.word_layout.proofs.LinkLemmas.{links_elsewhere, links_not_zero, zero_kept}
pub use Rattle.word_layout.proofs.LinkLemmas.{not_in_use}
pub use Rattle.word_layout.proofs.StoreLemmas.{length_after, untouched, after_append, Agree}
pub use Rattle.word_layout.proofs.StoreLemmas.{agree_after}
pub use Rattle.word_layout.proofs.WordLemmas.{one_item, item_place, link_no_item, IsCopyWord}
pub use Rattle.word_layout.proofs.WordLemmas.{in_copy, link_no_other, link_place, item_not_zero}
pub use Rattle.word_layout.proofs.WordLemmas.{item_not_root, item_not_left, item_not_right}
pub use Rattle.word_layout.proofs.WordLemmas.{copy_not_zero, unused_item}
pub use Rattle.word_layout.specs.Layouts.{capacity_of, limit_of}
pub use Rattle.word_layout.specs.Stores.{AreLinkStores, words_after_all, IsItemWord, IsLinkWord}
pub use Rattle.word_layout.specs.Stores.{words_after}
pub use Rattle.word_layout.specs.Words.{words_for, Nodes, listed, at, a_word, b_word, tag_word}
pub use Rattle.word_layout.specs.Words.{Holds, IsUnreached, item_at, InUse, left_word}
pub use Rattle.word_layout.specs.Words.{words_per_node, root_word, none, HoldsTable, by_root}
pub use Rattle.word_layout.specs.Words.{right_word, Reaches, by_left, by_right, fork, items}
pub use Rattle.word_layout.specs.declared.layouts.Layout.{Layout}
pub use Rattle.word_layout.specs.declared.stores.Store.{Store}
pub use Rattle.std.proofs.lemmas.Grind.{common_steps}
