-- The words that the proofs of this crate use, of whatever crate.
pub use Rattle.std.proofs.Common.{◌≡◌, ℕ, zero, suc, ◌+◌, ◌<◌, Bool, true, List, [], ◌∷◌, length}
pub use Rattle.std.proofs.Common.{get_or, ap, ◌∙◌, arith, ◌&&◌, ◌==◌, Option, Some, None, false}
pub use Rattle.std.proofs.Common.{refl, subst, append-nil, if◌then◌else◌, ◌-◌, ◌*◌, ◌/◌, ◌%◌, ◌^◌}
pub use Rattle.std.proofs.Common.{◌≤◌, cond, drop, set, sym, Bor, take, ◌++◌, length-append}
pub use Rattle.std.proofs.Common.{drop-cons, append_assoc, ◌⊎◌, flat_map, take-append-drop}
pub use Rattle.std.proofs.Common.{le_of_eq, Result, Ok, Err, IfSome, ◌≢◌, MatchResult, All, rules}
pub use Rattle.std.proofs.Common.{drop_of_length-le, vec_len, map, nat_lt}
pub use Rattle.std.proofs.KnownBytes.{Appends-nil, Appends-trans, Keeps-refl, append_known-grown}
pub use Rattle.std.proofs.KnownBytes.{append_known-passed}
pub use Rattle.std.proofs.Math.Seq.{take-append-add, take-append_seam, take-add}
pub use Rattle.std.proofs.lemmas.Bool.{and_parts, eqb-true, false_from_ne_true, lt-ltb}
pub use Rattle.std.proofs.lemmas.Grind.{common_steps, flat_map-append}
pub use Rattle.std.proofs.lemmas.List.{drop-set, length-set, take_all, take_more, take-take}
pub use Rattle.std.proofs.lemmas.List.{take_rest, length-drop, length-map}
pub use Rattle.std.specs.Char.{digit_value, is_digit}
pub use Rattle.std.specs.Fmt.{digits_onto, digit_glyph}
pub use Rattle.std.specs.Io.KnownBytes.{Appends, append_known, Keeps, Consumes}
pub use Rattle.std.specs.List.{slice_split, onto_first, list_all, zip, filter_map, cons_option}
pub use Rattle.std.specs.List.{starts_with}
pub use Rattle.std.specs.Str.Parse.{digits_value, digits_value_after}
pub use Rattle.facts.proofs.Digits.{digits_value_after-ge, half_fits, two_halves}
pub use Rattle.facts.proofs.Digits.{digits_value_after-end, list_all-end, digit_room, more_bits}
pub use Rattle.facts.proofs.Digits.{room_for_digit, digit_fits, next_digit}
pub use Rattle.memchr.specs.Find.{Nowhere, Passes, is_byte}
pub use Rattle.texts.specs.Device.{is_settled, error_kept, writer_in, is_broken}
pub use Rattle.texts.specs.Lines.{lines_of, words_of}
pub use Rattle.texts.specs.Numbers.{numeral}
pub use Rattle.texts.specs.Output.{Delivered, IsOpenedOver, contents_of, is_flushed, kept_back}
pub use Rattle.texts.specs.Output.{writer_of, Awaits, Says, Delivers, WrotePart, error_in}
pub use Rattle.texts.specs.Output.{has_failed}
pub use Rattle.texts.specs.Said.{Gives, GivesInGrammar, FaultsInGrammar, entries_after}
pub use Rattle.texts.specs.Said.{entries_from, said_by, said_lines}
pub use Rattle.texts.specs.declared.faults.LineFault.{LineFault}
pub use Rattle.texts.specs.declared.output.Output.{Output}
