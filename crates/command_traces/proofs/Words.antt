-- The words that the proofs of this crate use, of whatever crate.
pub use Rattle.std.proofs.Common.{◌≡◌, ℕ, ◌-◌, ◌≤◌, List, [], ◌∷◌, ◌++◌, length, take, drop, get_or}
pub use Rattle.std.proofs.Common.{flat_map, codes, ap, arith, Result, Ok, sym, ◌∙◌, subst}
pub use Rattle.std.proofs.Common.{append_assoc, append-nil, Some, None, Err, inl, refl, inr, true}
pub use Rattle.std.proofs.Common.{◌≢◌, false, decimal, rules}
pub use Rattle.std.proofs.lemmas.Grind.{flat_map-append}
pub use Rattle.std.proofs.lemmas.List.{take_rest, map-append, take_all}
pub use Rattle.std.proofs.lemmas.Result.{err_from_is_err_and}
pub use Rattle.command_parts.specs.JsonTexts.{json_count}
pub use Rattle.command_parts.specs.declared.fault.Fault.{Fault}
pub use Rattle.command_parts.specs.declared.fault.Fault.TheVariants.{BadLine, Write}
pub use Rattle.command_traces.specs.StepTraces.{AreLinesTold, IsOpenedFor, StopsTelling, Tells}
pub use Rattle.command_traces.specs.StepTraces.{TellsLines, AnswersStepsSaid, AreTold, IsBegunOf}
pub use Rattle.command_traces.specs.StepTraces.{IsBegunText, IsFrontText, IsStepsText, StopsAfter}
pub use Rattle.command_traces.specs.StepTraces.{IsCutText}
pub use Rattle.command_traces.specs.StepTexts.{json_list, steps_text, begun_members}
pub use Rattle.command_traces.specs.StepTexts.{started_members}
pub use Rattle.command_traces.specs.Traces.{IsLinesFault, commands_of, numbers_of, IsNext}
pub use Rattle.command_traces.specs.Traces.{HeaderMayOpen, IsRunText, greatest_of, order_by}
pub use Rattle.command_traces.specs.Traces.{IsTextOf, AnswersReadBy, AnswersSaidBy}
pub use Rattle.command_traces.specs.Traces.{HeaderMayNotOpen, IsNotOpened, IsTraceWith, AnswersSaid}
pub use Rattle.command_traces.specs.Traces.{IsTraceRun, Stays}
pub use Rattle.command_traces.specs.TraceTexts.{end_text, note_text}
pub use Rattle.latch_steps.specs.Expands.{Expand, Repeats, most_of}
pub use Rattle.latch_steps.specs.Reports.{AreReported, ObeysFromAny}
pub use Rattle.latch_steps.specs.Runs.{last_of, opening, Done, Moment}
pub use Rattle.latch_steps.specs.Steps.{Run, machine, machine_of}
pub use Rattle.latch_steps.specs.Worlds.{RepresentsMoment, layout_in}
pub use Rattle.latch_steps.specs.declared.commands.Command.{Command}
pub use Rattle.latch_steps.specs.declared.worlds.World.{World}
pub use Rattle.order_laws.specs.Orders.{Order}
pub use Rattle.order_laws.specs.declared.refusals.Refusal.{Refusal}
pub use Rattle.run_files.specs.CommandLines.{IsTaken, IsUnderstood, LinesLeft}
pub use Rattle.run_files.specs.Trace.{Contents, with_header, command_lines, trace_of}
pub use Rattle.run_files.specs.declared.command_lines.NumberedCommand.{NumberedCommand}
pub use Rattle.run_files.specs.declared.header.Header.{Header}
pub use Rattle.texts.proofs.OutputLemmas.{nothing_said, then, all_delivered, part_written}
pub use Rattle.texts.proofs.OutputLemmas.{same_text, then_flushed}
pub use Rattle.texts.proofs.ReadLemmas.{of_read}
pub use Rattle.texts.proofs.SaidLemmas.{all_said, none_before, one_more}
pub use Rattle.texts.specs.Counted.{NoneFailed, device_of}
pub use Rattle.texts.specs.Output.{Says, Delivers, has_failed, Delivered, WrotePart}
pub use Rattle.texts.specs.Said.{entries_after}
pub use Rattle.texts.specs.declared.output.Output.{Output}
pub use Rattle.word_layout.specs.Layouts.{capacity_of, limit_of}
pub use Rattle.word_layout.specs.Words.{at}
pub use Rattle.word_layout.specs.declared.layouts.Layout.{Layout}
