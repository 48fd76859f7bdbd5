-- The words that the proofs of this crate use, of whatever crate.
pub use Rattle.std.proofs.Common.{◌≡◌, ℕ, List, [], ◌∷◌, ◌++◌, refl, sym, ◌∙◌, ap, subst, ⊎_elim}
pub use Rattle.std.proofs.Common.{append_assoc, append-nil, ◌≢◌, zero, suc, ◌+◌, ◌-◌, ◌*◌, ◌≤◌}
pub use Rattle.std.proofs.Common.{length, Option, Some, None, arith, true, false, cond, ◌%◌, ◌<◌}
pub use Rattle.std.proofs.Common.{Bool, length-append, ◌^◌, take, get_or, Result, Ok, Err, drop}
pub use Rattle.std.proofs.Common.{inl, inr, Vec, Global}
pub use Rattle.std.proofs.lemmas.Bool.{cases_eq, eqb-true, eqb-false, eq-eqb, ne_eqb, lt-ltb}
pub use Rattle.std.proofs.lemmas.List.{take-append-le, drop-take, take-take, take_all}
pub use Rattle.std.specs.BTreeMap.{BTreeMap, is_at}
pub use Rattle.std.specs.FinMap.{get, insert, remove, FinMap, get-insert, get-remove, get-empty}
pub use Rattle.std.specs.FinMap.{empty}
pub use Rattle.std.specs.List.{AllByRecursion}
pub use Rattle.std.specs.Option.{option_map, option_flatten, option_copied_mut}
pub use Rattle.std.specs.Ordering.{nat_cmp, eq_by_cmp}
pub use Rattle.std.specs.Prelude.{min, is_some, ◌==◌, OnOk, count_by, Contains, ◌⊎◌, nat_lt, IsSome}
pub use Rattle.facts.proofs.Lists.{take_push}
pub use Rattle.facts.proofs.Maps.{get-insert_other, get-insert_same, get-remove_other}
pub use Rattle.facts.proofs.Maps.{get-remove_same}
pub use Rattle.facts.proofs.Options.{None-from_is_none}
pub use Rattle.latch_core.proofs.ReadingLemmas.{rest_push, stand_push}
pub use Rattle.latch_core.proofs.SoundLemmas.{rest_is_current, sound_opening, current_at_rest}
pub use Rattle.latch_core.proofs.SoundLemmas.{gen_within, sequence_after, hidden_same, sound_step}
pub use Rattle.latch_core.proofs.SoundLemmas.{sound_begin, standing_step}
pub use Rattle.latch_core.proofs.StoreOrderLemmas.{shallow_tree, stays_now}
pub use Rattle.latch_core.proofs.WalkLemmas.{attempt_ran, attempt_count, attempt_depth_count}
pub use Rattle.latch_core.proofs.WalkLemmas.{few_deep_any, attempt_answers, standing_push}
pub use Rattle.latch_core.proofs.WalkLemmas.{answer_first, attempt_loads, attempt_below}
pub use Rattle.latch_core.proofs.WalkLemmas.{attempt_below_depth}
pub use Rattle.latch_core.specs.Attempts.{Answer, Reading, Load, Ends, attempt, rest_after, Again}
pub use Rattle.latch_core.specs.Attempts.{Stand}
pub use Rattle.latch_core.specs.Histories.{current_table, table_at}
pub use Rattle.latch_core.specs.Invariants.{IsSound, IsStanding, IsPendingOf, AreTables}
pub use Rattle.latch_core.specs.Latches.{PendingUpdate, Latch, IsWriterStep, latch_after_step}
pub use Rattle.latch_core.specs.Latches.{latch_with_update}
pub use Rattle.latch_core.specs.Sequences.{generation_of, stable_copy_of}
pub use Rattle.latch_core.specs.WriterViews.{WriterView}
pub use Rattle.latch_core.specs.Writers.{RepresentsLatch, IsShallow, MayOpen, HasBegun, has_pending}
pub use Rattle.latch_core.specs.Writers.{why_refused, writer_after_step}
pub use Rattle.latch_steps.specs.Expands.{ends, event_of, most_of, Repeats, Expand, reads_within}
pub use Rattle.latch_steps.specs.Expands.{writes_within, writes_left}
pub use Rattle.latch_steps.specs.Lookups.{IsPendingLookup, lookup_at, IsLookupOf, LoadsTo}
pub use Rattle.latch_steps.specs.Lookups.{LoadsNextFrom, word_asked, next_load}
pub use Rattle.latch_steps.specs.Near.{AreShallow, IsDepth, AreNear}
pub use Rattle.latch_steps.specs.Quiet.{is_step, is_load_of, up_to_next_step, replies_to}
pub use Rattle.latch_steps.specs.Quiet.{ReturnsWithin, ReturnsFromStart, AreUndisturbed}
pub use Rattle.latch_steps.specs.Quiet.{flips_between, IsPatientReply, IsQuiet, is_flip}
pub use Rattle.latch_steps.specs.Recordings.{IsEmpty, IsWhole, Keeps, AreWhole}
pub use Rattle.latch_steps.specs.Reports.{AreReported, IsReportedRun, ObeysFromAny, IsLoadBy}
pub use Rattle.latch_steps.specs.Reports.{IsWriting, Obeys, ObeysOnce, ReportsEvent, outcome_of}
pub use Rattle.latch_steps.specs.Reports.{ChangesOneLookup, LoadsFrom, LoadsOn}
pub use Rattle.latch_steps.specs.Runs.{Moment, Done, step_done, last_of, accepted, history}
pub use Rattle.latch_steps.specs.Runs.{PendingLookup, opening, moment_at}
pub use Rattle.latch_steps.specs.Steps.{machine, machine_of, Run, counted_up, with_lookups}
pub use Rattle.latch_steps.specs.Steps.{new_lookup, with_value, after_value, load_left, start_done}
pub use Rattle.latch_steps.specs.Steps.{load_done, read_done, AfterLoad, Goes, Retries, Returns}
pub use Rattle.latch_steps.specs.Steps.{Step, IsWrite, after_load, next_attempt, return_of, IsBegin}
pub use Rattle.latch_steps.specs.Steps.{with_event, with_latch}
pub use Rattle.latch_steps.specs.Traces.{IsTraceOf, kept, events_of, notes_of, note_of}
pub use Rattle.latch_steps.specs.WorldSteps.{Does, GivesUp, IsWorldStep, is_refused_for_memory}
pub use Rattle.latch_steps.specs.WorldSteps.{MayDo}
pub use Rattle.latch_steps.specs.Worlds.{StaysAfter, RepresentsMoment, IsAtRest, layout_in, IsAfter}
pub use Rattle.latch_steps.specs.Worlds.{machine_in, HasEvents, HasSequence, ArePendingLookups}
pub use Rattle.latch_steps.specs.declared.commands.Command.{Command}
pub use Rattle.latch_steps.specs.declared.events.Event.{Event}
pub use Rattle.latch_steps.specs.declared.events.Event.TheVariants.{Begin, Write, Start, Read}
pub use Rattle.latch_steps.specs.declared.lookups.Lookup.{Lookup}
pub use Rattle.latch_steps.specs.declared.replies.NextLoad.{NextLoad}
pub use Rattle.latch_steps.specs.declared.replies.Reply.{Reply}
pub use Rattle.latch_steps.specs.declared.replies.Reply.TheVariants.{Wrote, Refused, Started}
pub use Rattle.latch_steps.specs.declared.replies.Reply.TheVariants.{Loaded, Begun, Idle, Retried}
pub use Rattle.latch_steps.specs.declared.reports.Outcome.{Outcome}
pub use Rattle.latch_steps.specs.declared.worlds.World.{World}
pub use Rattle.order_laws.specs.Orders.{Order, IsLawful}
pub use Rattle.order_laws.specs.Tables.{look, IsTable, IsLook}
pub use Rattle.order_laws.specs.declared.items.Item.{Item}
pub use Rattle.order_laws.specs.declared.refusals.Refusal.{Refusal}
pub use Rattle.order_laws.specs.declared.refusals.Refusal.TheVariants.{OutOfMemory, ReaderBusy}
pub use Rattle.order_laws.specs.declared.refusals.Refusal.TheVariants.{ReaderIdle}
pub use Rattle.rb_trees.specs.Trees.{depth}
pub use Rattle.table_updates.specs.Updates.{replay, refusal_for, most_steps}
pub use Rattle.table_updates.specs.declared.updates.Update.{Update}
pub use Rattle.word_layout.specs.Layouts.{capacity_of, limit_of}
pub use Rattle.word_layout.specs.Stores.{words_after}
pub use Rattle.word_layout.specs.Words.{at, words_for, Nodes, Holds}
pub use Rattle.word_layout.specs.declared.stores.Store.{Store}
