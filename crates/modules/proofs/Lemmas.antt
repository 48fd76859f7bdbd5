-- The laws of std and of the crates below that the proofs of this crate use.
pub use Rattle.std.proofs.Math.ListN.{length-set, set}
pub use Rattle.std.proofs.Math.Nat.{le_antisymm}
pub use Rattle.std.proofs.Math.Seq.{get_or-append_seam, take-length}
pub use Rattle.std.proofs.lemmas.Bool.{and_from, and_left, and_parts, cases_eq, cases_lt}
pub use Rattle.std.proofs.lemmas.Bool.{cases_order, eq-eqb, eqb-false, eqb-true, false_from_ne_true}
pub use Rattle.std.proofs.lemmas.Bool.{false≢true, le-leb, le-ltb, leb-false, leb-true, lt-leb}
pub use Rattle.std.proofs.lemmas.Bool.{lt-ltb, ltb-false, ltb-true, ne_eqb, not-true, or_cases}
pub use Rattle.std.proofs.lemmas.Bool.{or_from, or_left, or_parts, or_right}
pub use Rattle.std.proofs.lemmas.Cmp.{nat_cmp_total, nat_list_cmp_total}
pub use Rattle.std.proofs.lemmas.Fn.{always_returns_same}
pub use Rattle.std.proofs.lemmas.Grind.{get_or-set_at}
pub use Rattle.std.proofs.lemmas.Iterator.{YieldsList-from_slice}
pub use Rattle.std.proofs.lemmas.Iterator.Adapters.{position_from-zero, serves_from_places}
pub use Rattle.std.proofs.lemmas.Iterator.Consumers.{YieldsList-at}
pub use Rattle.std.proofs.lemmas.List.{append-nil, get_or-map, get_or-set_other, get_or-take}
pub use Rattle.std.proofs.lemmas.List.{get_or_append_left, get_or_default, get_or_push, length-map}
pub use Rattle.std.proofs.lemmas.List.{length-take-le, map-append, nil_from_length, same_lists}
pub use Rattle.std.proofs.lemmas.List.{take_all, take_at, take_more}
pub use Rattle.std.proofs.lemmas.List.Concat.{flat_map-append, length-flat_map}
pub use Rattle.std.proofs.lemmas.List.Kept.{AllPairs-cons}
pub use Rattle.std.proofs.lemmas.List.Elements.{All-append, All-cons, All-contains, All-filter}
pub use Rattle.std.proofs.lemmas.List.Elements.{All-head, All-map, All-nil, All-pop, All-push}
pub use Rattle.std.proofs.lemmas.List.Elements.{All-tail, Contains-append_left}
pub use Rattle.std.proofs.lemmas.List.Elements.{Contains-append_right, Contains-get_or}
pub use Rattle.std.proofs.lemmas.List.Elements.{Contains-push, Contains-push_cases, filter-append}
pub use Rattle.std.proofs.lemmas.List.Elements.{filter_agree, filter_passes}
pub use Rattle.std.proofs.lemmas.List.Folds.{find-append, flat_map-map, list_all-append}
pub use Rattle.std.proofs.lemmas.List.Folds.{list_all_more, list_any-append, list_any_at}
pub use Rattle.std.proofs.lemmas.List.Folds.{list_any_none}
pub use Rattle.std.proofs.lemmas.List.FromFn.{length-enumerate_from}
pub use Rattle.std.proofs.lemmas.List.Quantifiers.{all_pairs_push, position-Some}
pub use Rattle.std.proofs.lemmas.List.Sorted.{All-permutation, Contains-permutation}
pub use Rattle.std.proofs.lemmas.List.Sorted.{IsNonDecreasingBy-from_all_adjacent}
pub use Rattle.std.proofs.lemmas.List.Sorted.{IsNonDecreasingBy-from_sort_by_key}
pub use Rattle.std.proofs.lemmas.List.Sorted.{IsPartitionPoint-from_clause, IsPartitionedBy-leb}
pub use Rattle.std.proofs.lemmas.List.Sorted.{IsPermutation-sym, IsPermutation-trans}
pub use Rattle.std.proofs.lemmas.List.Sorted.{answers_always, length_permutation, ranks_by}
pub use Rattle.std.proofs.lemmas.List.Sorted.{searchable_from_sorted, sorted_far}
pub use Rattle.std.proofs.lemmas.List.Sums.{AllPass-from_list_all, count_by-le-length}
pub use Rattle.std.proofs.lemmas.List.Sums.{length-filter, list_all-from_AllPass, sum_by-append}
pub use Rattle.std.proofs.lemmas.List.Sums.{sum_by-cons}
pub use Rattle.std.proofs.lemmas.Map.Keys.{ge_from_not_lt}
pub use Rattle.std.proofs.lemmas.Map.Lookups.{exact_unsigned}
pub use Rattle.std.proofs.lemmas.Map.Text.{btree_map_updates_str, is_eq-slice_cmp}
pub use Rattle.std.proofs.lemmas.Map.Views.{All-found, btree_map_get_iff}
pub use Rattle.std.proofs.lemmas.Option.{get_or_from_slice_get, slice_get-get_or, slice_get_cases}
pub use Rattle.std.proofs.lemmas.Option.{slice_get_past, slice_get_within}
pub use Rattle.facts.proofs.Bools.{and-needless_first, and-needless_second, and_by_second}
pub use Rattle.facts.proofs.Bools.{and_rotate, count-and_false, count-or, count-or_apart}
pub use Rattle.facts.proofs.Bools.{or_by_first, or_by_second}
pub use Rattle.facts.proofs.Lists.{get_or-map_default, take_push}
pub use Rattle.facts.proofs.Maps.{inserted_cases, list_all-insert_entry}
pub use Rattle.facts.proofs.Members.{Contains-cons_cases, Contains-head, Contains-map}
pub use Rattle.facts.proofs.Members.{Contains-rest, Contains-slice_get}
pub use Rattle.facts.proofs.Numbers.{eqb-one_false, eqb-one_more, is_lt-then, le_or_past}
pub use Rattle.facts.proofs.Numbers.{le_or_past_below, le_or_past_cases, le_or_past_within}
pub use Rattle.facts.proofs.Numbers.{le_unless_past, least_above, least_above_below}
pub use Rattle.facts.proofs.Numbers.{least_above_cases, least_above_past, least_above_within}
pub use Rattle.facts.proofs.Numbers.{pairs_chain, pairs_not_before, pairs_one_way}
pub use Rattle.facts.proofs.Options.{Some_ne_None, bytes_eq-one_name}
pub use Rattle.facts.proofs.Orderings.{Less-from_lt, bytes_eq-neither, is_eq-between, is_le-index}
pub use Rattle.facts.proofs.Orderings.{is_lt-index, is_lt-is_le, is_lt-not_eq, lt-from_Less}
pub use Rattle.facts.proofs.Orderings.{not_le-not_eq}
pub use Rattle.facts.proofs.Pairs.{AllPairs-across, AllPairs-few, AllPairs-left, AllPairs-right}
pub use Rattle.facts.proofs.Ranges.{range-append_from_zero}
pub use Rattle.facts.proofs.Tests.{All-from_find, count_by-either, filter-middle, find-agree}
pub use Rattle.facts.proofs.Tests.{find-both_none, find-both_some, find-filter, find-first}
pub use Rattle.facts.proofs.Tests.{find-has, find-none, find-number, find-passes, find_place}
pub use Rattle.facts.proofs.Tests.{is_some-position_from, least_in, list_all-agree}
pub use Rattle.facts.proofs.Tests.{list_all-each_agree, list_all-filter, position_from-new}
pub use Rattle.facts.proofs.Tests.{some_passes}
pub use Rattle.order_laws.proofs.HalfOpenLemmas.{begins, ends, equal_inside}
pub use Rattle.order_laws.proofs.MeetLemmas.{none_meets}
pub use Rattle.order_laws.proofs.PlaceLemmas.{without_none}
pub use Rattle.order_laws.proofs.TableLemmas.{look_is}
pub use Rattle.table_updates.proofs.HistoryLemmas.{all_are_valid, insert_accepted, no_test_holds}
pub use Rattle.table_updates.proofs.HistoryLemmas.{none_meet}
