-- The words that the proofs of this crate use, of whatever crate.
pub use Rattle.std.proofs.Common.{◌≡◌, ◌∙◌, ℕ, zero, suc, ◌||◌, cond, map, None, Some, Option}
pub use Rattle.std.proofs.Common.{IfSome, Bool, true, false, append_assoc, ◌+◌, ◌-◌, ◌*◌, ◌^◌, ◌<◌}
pub use Rattle.std.proofs.Common.{◌≤◌, List, [], ◌∷◌, ◌++◌, length, arith, refl, sym, ap, subst}
pub use Rattle.std.proofs.Common.{take, drop, get_or, true≢false, ⊎_elim}
pub use Rattle.std.proofs.lemmas.Bool.{lt-ltb, cases_order, eqb-true, ne_eqb}
pub use Rattle.std.proofs.lemmas.Int.Digits.{digits_value_push}
pub use Rattle.std.proofs.lemmas.List.{take_more, drop_more, drop-drop, length-drop, take_rest}
pub use Rattle.std.proofs.Math.Seq.{take-add}
pub use Rattle.std.specs.Char.{digit_value}
pub use Rattle.std.specs.List.{prefix_len, onto_first}
pub use Rattle.std.specs.Str.Parse.{digits_value}
pub use Rattle.std.proofs.lemmas.Grind.{pow_more}
pub use Rattle.logs.specs.Lines.{lines}
pub use Rattle.histories.specs.Times.{is_decimal}
pub use Rattle.histories.specs.LineTimes.{line_time, first_time}
pub use Rattle.histories.specs.ListingLines.{without_end}
pub use Rattle.histories.specs.Grammar.{header_of, body_of, first_bad, history_of, parts_of}
pub use Rattle.histories.specs.Grammar.{HistoryPart, AreInOrder, time_text}
pub use Rattle.histories.specs.Changes.{changed_by, is_among, is_named, kept_lines, added_lines}
pub use Rattle.histories.specs.Changes.{named_module, with_named}
pub use Rattle.histories.specs.ListingsAt.{kernel_lines, after_parts, after_part, listing_after}
pub use Rattle.histories.specs.ListingsAt.{count_at}
pub use Rattle.memchr.specs.Find.{Nowhere, Passes, is_byte}
pub use Rattle.std.proofs.lemmas.List.Sums.{prefix_len-le-length, prefix_len_passes}
pub use Rattle.std.specs.Option.{option_map_or, option_or}
pub use Rattle.std.specs.Prelude.{nat_le}
pub use Rattle.texts.proofs.LineCutLemmas.{later}
