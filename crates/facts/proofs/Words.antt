-- The words that the proofs of this crate use, of whatever crate.
pub use Rattle.std.proofs.Common.{◌&&◌, ◌+◌, ◌||◌, ◌∙◌, ◌≡◌, Bool, arith, cond, false, not, refl}
pub use Rattle.std.proofs.Common.{sym, true, ℕ, ⊎_elim, ◌*◌, ◌++◌, ◌<◌, ◌^◌, ◌∷◌, ◌≤◌, List, [], ap}
pub use Rattle.std.proofs.Common.{drop, drop_of_length-le, le-add_right, le_trans, length, subst}
pub use Rattle.std.proofs.Common.{◌≢◌, Some, eqb, get_or, suc, zero, ◌-◌, append_assoc, inl, inr}
pub use Rattle.std.proofs.Common.{map, take, Option, None, if◌then◌else◌, min, nat_le, Err, IfOk}
pub use Rattle.std.proofs.Common.{Ok, flat_map, length-append, add-zero}
pub use Rattle.std.proofs.Math.Bool.{or-true, and_assoc}
pub use Rattle.std.proofs.Math.Nat.{mul-le-mul_left, pow-le-pow_right, pow-suc, pow-zero}
pub use Rattle.std.proofs.Math.Nat.{min-eq_left, min-eq_right, min-le_left, min-le_right}
pub use Rattle.std.proofs.lemmas.Bool.{or_left, and_parts, cases_lt, eqb-true, ne_eqb, or_cases}
pub use Rattle.std.proofs.lemmas.Bool.{lt-ltb, cases_eq, cases_Bool, eq-eqb, le-ltb, ltb-false}
pub use Rattle.std.proofs.lemmas.Bool.{false_from_ne_true, or_parts}
pub use Rattle.std.proofs.lemmas.Bool.Decides.{nat_tests, leb_tells}
pub use Rattle.std.proofs.lemmas.Cmp.{nat_cmp_total, nat_list_cmp_total}
pub use Rattle.std.proofs.lemmas.Grind.{pow_more, flat_map-append, get_or_default_zero}
pub use Rattle.std.proofs.lemmas.List.{get_or_append_left, take-set, take-take, take_more}
pub use Rattle.std.proofs.lemmas.List.{take-append-drop, get_or-append-add, get_or_default}
pub use Rattle.std.proofs.lemmas.List.{get_or-map, length-map}
pub use Rattle.std.proofs.lemmas.List.Elements.{All-contains, All-from_recursion, filter_map-append}
pub use Rattle.std.proofs.lemmas.List.Elements.{Contains-append_cases, Contains-append_left}
pub use Rattle.std.proofs.lemmas.List.Elements.{Contains-append_right, All-cons, All-head, All-nil}
pub use Rattle.std.proofs.lemmas.List.Elements.{All-tail}
pub use Rattle.std.proofs.lemmas.Option.{get_or_from_slice_get, slice_get_within, slice_get-get_or}
pub use Rattle.std.specs.Cmp.Lexicographic.{bytes_decides, pointwise, same_text, slice_cmp}
pub use Rattle.std.specs.List.{list_all, AllByRecursion, list_any, onto_first, swap_remove}
pub use Rattle.std.specs.List.{filter_map, cons_option, AllPairs, range_with_len, position_from}
pub use Rattle.std.specs.List.Sorted.{IsNonDecreasingBy, IsBinarySearchResult, IsNonDecreasing}
pub use Rattle.std.specs.Option.{option_copied, option_eq, option_map_or}
pub use Rattle.std.specs.Ordering.{eq_by_cmp, is_eq, match_ordering, nat_cmp, is_lt, ordering_then}
pub use Rattle.std.specs.Ordering.{is_le, ordering_index, ordering_reverse}
pub use Rattle.std.specs.Prelude.{Contains, filter, slice_get, is_some, slice_index_or, slice_set}
pub use Rattle.std.specs.Prelude.{max, IfNone, IfSome, IsSome, OnErr, zip, All, count_by, find}
pub use Rattle.std.specs.Prelude.{is_ok}
pub use Rattle.std.specs.Str.{bytes_eq}
pub use Rattle.std.specs.declared.cmp.Ordering.{Ordering}
pub use Rattle.std.specs.declared.cmp.Ordering.TheVariants.{Equal, Greater, Less}
