-- The words that the proofs of this crate use, of whatever crate.
pub use Rattle.std.proofs.Common.{Bool, Err, List, None, Ok, Option, Result, Some, [], ap, arith}
pub use Rattle.std.proofs.Common.{cond, drop, false, inl, inr, length, map, nat_eq, refl, subst}
pub use Rattle.std.proofs.Common.{sym, take, true, ℕ, ◌&&◌, ◌++◌, ◌+◌, ◌-◌, ◌<◌, ◌==◌, ◌||◌, ◌∙◌}
pub use Rattle.std.proofs.Common.{◌∷◌, ◌≡◌, ◌≤◌, filter, flat_map, length-append, append_assoc}
pub use Rattle.std.proofs.Common.{append-nil, length-take, true≢false, ◌^◌, ◌⊎◌}
pub use Rattle.std.proofs.lemmas.List.{nil_from_length, take-append-drop, take_rest}
pub use Rattle.std.specs.Prelude.{IfOk, is_some, not, IsErrAnd}
pub use Rattle.histories.specs.Changes.{is_among}
pub use Rattle.std.proofs.lemmas.Bool.{lt-ltb, ltb-true, or_parts}
pub use Rattle.std.specs.Borrow.{Bor}
pub use Rattle.recordings.specs.KernelEvents.{KernelEvent}
pub use Rattle.std.specs.List.{fold, onto_first}
pub use Rattle.std.specs.Option.{option_copied, option_map, option_map_or}
pub use Rattle.std.specs.Str.{bytes_eq}
pub use Rattle.texts.specs.Lines.{lines_of}
pub use Rattle.logs.specs.Lines.{AreWhole, IsLine, has_end, is_long, lines}
pub use Rattle.histories.specs.ListingLines.{module_of, without_end}
pub use Rattle.recordings.specs.Events.{event_after, event_in, has_lost, said_by}
pub use Rattle.recordings.specs.EventLines.{IsOpen, TakesBlock, kept_with, said_in}
pub use Rattle.recordings.specs.ModuleLines.{SomeLines, joined, joined_if, lines_of_module}
pub use Rattle.recordings.specs.ModuleLines.{modules_in, names_of, text_of}
pub use Rattle.recordings.specs.ListingTexts.{has_hidden, recorded_text}
pub use Rattle.recordings.specs.Changes.{is_left, modules_after, parts_among, texts, with_changed}
pub use Rattle.recordings.specs.ChangeTexts.{gone_lines, texts_among}
pub use Rattle.recordings.specs.Recordings.{BlockRead, BlockWritten, after_block, after_line}
pub use Rattle.recordings.specs.Recordings.{after_module, at_time, is_silent, modules_now, named_in}
pub use Rattle.recordings.specs.Recordings.{needs, other_names, own_text, CarriedOn}
pub use Rattle.std.proofs.lemmas.List.Concat.{flat_map-append}
pub use Rattle.texts.specs.declared.output.Output.{Output}
pub use Rattle.command_parts.proofs.FaultLemmas.{handed_on}
pub use Rattle.command_parts.specs.declared.fault.Fault.{Fault}
pub use Rattle.command_parts.specs.declared.fault.Fault.TheVariants.{Read, TooLong}
pub use Rattle.command_listings.specs.LastingLogs.{Event, Failed, ReadsBlock, Seen}
pub use Rattle.command_listings.specs.Following.{Turn}
pub use Rattle.recordings.specs.declared.events.EventLine.{EventLine}
pub use Rattle.recordings.specs.declared.recorder.Stop.{Stop}
