-- The words that the proofs of this crate use, of whatever crate.
pub use Rattle.std.proofs.Common.{Bool, Bor, Err, List, None, Ok, OnOk, Option, Result, Some, []}
pub use Rattle.std.proofs.Common.{add-one, ap, append-nil, append_assoc, arith, cond, drop}
pub use Rattle.std.proofs.Common.{drop-cons, false, flat_map, get_or, inl, inr, length}
pub use Rattle.std.proofs.Common.{length-append, map, min, nat_eq, nat_le, nat_lt, not, refl, rules}
pub use Rattle.std.proofs.Common.{subst, suc, sym, take, true, zero, zero-add, ℕ, ⊎_elim, ◌&&◌, ◌*◌}
pub use Rattle.std.proofs.Common.{◌++◌, ◌+◌, ◌-◌, ◌<◌, ◌^◌, ◌||◌, ◌∙◌, ◌∷◌, ◌≡◌, ◌≢◌, ◌≤◌, ◌⊎◌}
pub use Rattle.std.proofs.lemmas.Bool.Decides.{nat_tests}
pub use Rattle.std.proofs.lemmas.Grind.{common_steps}
pub use Rattle.std.proofs.lemmas.List.{nil_from_length, get_or_default}
pub use Rattle.std.proofs.lemmas.List.Elements.{All-contains, Contains-push, All-filter}
pub use Rattle.std.proofs.lemmas.List.Sorted.{IsPartitionPoint-from_clause, IsPartitionedBy-leb}
pub use Rattle.std.proofs.lemmas.List.Sorted.{IsNonDecreasingBy-from_sort_by_key}
pub use Rattle.std.proofs.lemmas.List.Sorted.{IsPartitionedBy-ltb}
pub use Rattle.std.specs.BTreeMap.{BTreeMap, IsOrdered, Updates, get, get_by}
pub use Rattle.std.specs.Cmp.{IsStrictWeakOrder, first_so, second_so}
pub use Rattle.std.specs.Cmp.Lexicographic.{bytes_decides, slice_cmp}
pub use Rattle.std.specs.Global.{Vec}
pub use Rattle.std.specs.List.{AllPairs, IsAllAdjacentAnswer, enumerate_from, list_all, list_any}
pub use Rattle.std.specs.List.{position_from, range_with_len}
pub use Rattle.std.specs.List.Sorted.{IsNonDecreasingBy, IsPartitionPoint, IsPartitionedBy}
pub use Rattle.std.specs.List.Sorted.{IsSortedBy, IsStableBy, IsStableByKey, ties}
pub use Rattle.std.specs.Option.{option_and_then, option_copied, option_map, option_map_or}
pub use Rattle.std.specs.Option.{option_or, option_to_list}
pub use Rattle.std.specs.Ordering.{is_eq, is_le, is_lt, nat_cmp, ordering_index}
pub use Rattle.std.specs.Prelude.{All, Contains, IfOk, IfSome, IsPermutation, IsSome, MatchOption}
pub use Rattle.std.specs.Prelude.{codes, count_by, filter, find, fold, is_none, is_some, position}
pub use Rattle.std.specs.Prelude.{slice_get, sum_by, unwrap_or, ◌↔◌}
pub use Rattle.std.specs.Str.{bytes_eq}
pub use Rattle.std.specs.Vec.Iter.{into_iter_items}
pub use Rattle.std.specs.declared.alloc.AllocError.{AllocError}
pub use Rattle.std.specs.declared.cmp.Ordering.{Ordering}
pub use Rattle.std.specs.declared.cmp.Ordering.TheVariants.{Less}
pub use Rattle.modules.specs.Entries.{SymbolEntry}
pub use Rattle.modules.specs.LineMarks.{AreLeft, kept_numbers, modules_numbered, symbol_marks}
pub use Rattle.modules.specs.Loads.{same_items, item_of}
pub use Rattle.modules.specs.Starts.{starts_of}
pub use Rattle.modules.specs.SymbolNames.{names_below, names_of_symbols}
pub use Rattle.order_laws.specs.declared.items.Item.{Item}
