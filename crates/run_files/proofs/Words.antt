-- The words that the proofs of this crate use, of whatever crate.
pub use Rattle.std.proofs.Common.{◌≡◌, ◌≢◌, ℕ, ◌<◌, ◌≤◌, Bool, ◌&&◌, List, [], ◌∷◌, length, map}
pub use Rattle.std.proofs.Common.{None}
pub use Rattle.std.proofs.Common.{Option, refl, ap, arith, Bor, slice_index_or, cond, true, false}
pub use Rattle.std.proofs.Common.{nat_lt, Some, Result, Ok, Err, MatchResult, sym, ◌∙◌, subst, ◌++◌}
pub use Rattle.std.proofs.Common.{inl, inr, rules, tests}
pub use Rattle.std.specs.Option.{option_and_then, option_map_or, option_map}
pub use Rattle.std.specs.Prelude.{codes, All, IfOk}
pub use Rattle.std.specs.Str.{bytes_eq}
pub use Rattle.latch_steps.specs.declared.commands.Command.{Command}
pub use Rattle.run_files.specs.Batch.{items_of_numbers, numbers_of}
pub use Rattle.run_files.specs.Commands.{command_of, command_with, erase_of, insert_of, read_of}
pub use Rattle.run_files.specs.Commands.{start_of, write_of, command_by}
pub use Rattle.run_files.specs.Header.{header_of_words, header_with, header_of}
pub use Rattle.run_files.specs.Scripts.{change_by, change_named, has_actor, lies_between, look_with}
pub use Rattle.run_files.specs.Scripts.{most_writers, script_line_by, script_line_of}
pub use Rattle.texts.proofs.LineCutLemmas.{Words}
pub use Rattle.texts.proofs.SaidLemmas.{one_more, none_before}
pub use Rattle.texts.proofs.UnderstoodLemmas.{are_entries, AreEntries}
pub use Rattle.texts.specs.Lines.{words_of, lines_of}
pub use Rattle.texts.specs.Numbers.{number_of, between}
pub use Rattle.texts.specs.Said.{entries_from, GivesInGrammar, is_passed_over, is_too_long}
pub use Rattle.texts.specs.Said.{entries_after}
