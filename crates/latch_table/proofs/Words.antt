-- The words that the proofs of this crate use, of whatever crate.
pub use Rattle.std.proofs.Common.{◌≡◌, ℕ, ◌-◌, ◌*◌, ◌≤◌, List, [], length, take, All, None, refl}
pub use Rattle.std.proofs.Common.{sym, ◌∙◌, ap, subst, ◌+◌, ◌∷◌, ◌++◌, Option, Some, ⊎_elim, arith}
pub use Rattle.std.proofs.Common.{append-nil, length-append, suc, ◌<◌, inl, le_refl, true, false}
pub use Rattle.std.proofs.Common.{◌≢◌, zero, set, cond, append_assoc, ◌%◌, drop, inr, length-set}
pub use Rattle.std.proofs.Common.{rules}
pub use Rattle.std.proofs.lemmas.Bool.{eqb-true, eq-eqb, ne_eqb}
pub use Rattle.std.proofs.lemmas.List.{take_all, take-append-le, take-append-drop, length-take-le}
pub use Rattle.std.proofs.lemmas.List.{length-replicate, nil_from_length}
pub use Rattle.std.specs.Arc.{arc_value}
pub use Rattle.std.specs.Prelude.{Contains, is_some, ◌==◌, ◌⊎◌, ◌&&◌, MatchOption, nat_lt}
pub use Rattle.std.specs.Prelude.{slice_set, replicate, IfSome}
pub use mathlib.Core.List.{IsPrefix}
pub use lib.ListN.{get_elem?, get_or}
pub use Rattle.atomic_table.specs.Seated.{TableId}
pub use Rattle.atomic_table.specs.Table.{Me, opening, State, step, keeps, stepped, Allows, Splits}
pub use Rattle.atomic_table.specs.Table.{Joins}
pub use Rattle.facts.proofs.Lists.{IsPrefix-along, IsPrefix-whole, first_and_rest}
pub use Rattle.latch_core.proofs.LatchedLemmas.{steady_step, steady_load, steady_first, stand_end}
pub use Rattle.latch_core.proofs.LatchedLemmas.{latched_answers, wanted_kept, loads_push}
pub use Rattle.latch_core.proofs.SoundLemmas.{sequence_after, table_at_rest, hidden_same}
pub use Rattle.latch_core.proofs.SoundLemmas.{flips_of_flip, flips_of_store, sound_step}
pub use Rattle.latch_core.proofs.SoundLemmas.{sound_begin, sound_opening}
pub use Rattle.latch_core.specs.Attempts.{Reading, Load, Ends, Answer, attempt, rest_after}
pub use Rattle.latch_core.specs.Attempts.{IsAttempt, Outcome, Again, WalkEnd, AtItem, AtEmptyLink}
pub use Rattle.latch_core.specs.Attempts.{Stuck, outcome, last_load, attempt_after, Stand}
pub use Rattle.latch_core.specs.Invariants.{IsSound, IsPendingUpdate, IsPendingOf}
pub use Rattle.latch_core.specs.Latched.{loads_of, IsKept, StandAll, IsSteady, IsLatched}
pub use Rattle.latch_core.specs.Latches.{PendingUpdate, Latch, IsWriterStep, flips_after}
pub use Rattle.latch_core.specs.Latches.{latch_after_step, opening_latch}
pub use Rattle.latch_core.specs.Replacements.{replacement, is_rising, update_found, Tells}
pub use Rattle.latch_core.specs.Sequences.{generation_of, stable_copy_of}
pub use Rattle.latch_core.specs.Whole.{outcome_of}
pub use Rattle.latch_core.specs.WriterViews.{WriterView}
pub use Rattle.latch_core.specs.Writers.{RepresentsLatch, IsMemoryAtRest, next_store, why_refused}
pub use Rattle.latch_core.specs.Writers.{has_pending, writer_after_step, HasBegun, opening_writer}
pub use Rattle.latch_core.specs.declared.replacements.Difference.{Difference}
pub use Rattle.latch_table.specs.Enlarging.{Enlarges, enlarged_state, reader_beside}
pub use Rattle.latch_table.specs.Lookups.{FindsIn}
pub use Rattle.latch_table.specs.Memory.{Remembers, MemoryHolds, IsRecalled, Recalled, Looked}
pub use Rattle.latch_table.specs.Memory.{memory_after}
pub use Rattle.latch_table.specs.Readers.{ReaderState, new_reader, KnowsMore, Answers, Tried, Met}
pub use Rattle.latch_table.specs.Readers.{AreRetries, EndedAttempt, Searched, Searches, reader_at}
pub use Rattle.latch_table.specs.Replacing.{LeadsToFew, TellsTree, IsReplacement}
pub use Rattle.latch_table.specs.Rule.{KnowledgeHolds, LoadsSequence, Rises, EndsRight, ReaderKnows}
pub use Rattle.latch_table.specs.Rule.{as_reader, WriterKnows, WriterPart, ReaderPart, SeatKnows}
pub use Rattle.latch_table.specs.Rule.{as_writer, sequence_loaded, word_loaded, lookup_begun}
pub use Rattle.latch_table.specs.Rule.{writer_loaded, word_copied, update_taken, word_stored}
pub use Rattle.latch_table.specs.Seats.{writer_of, writer_knowledge, moved_writer, blank_reader}
pub use Rattle.latch_table.specs.Seats.{reader_of, with_sequence, with_word, last_or}
pub use Rattle.latch_table.specs.Seats.{joined_knowledge, new_reader_knowledge, no_knowledge}
pub use Rattle.latch_table.specs.Seats.{writer_alone, reader_alone, with_loads, with_update}
pub use Rattle.latch_table.specs.Seats.{with_store, shown_after, reader_knowledge, blank_writer}
pub use Rattle.latch_table.specs.Seats.{first_knowledge}
pub use Rattle.latch_table.specs.Walks.{LearnsSequence, MayLoad, IsReading, LearnsWord, IsWriting}
pub use Rattle.latch_table.specs.Walks.{WriterLearns}
pub use Rattle.latch_table.specs.Writers.{WriterState, writer_state, pending_of, shown_updates}
pub use Rattle.latch_table.specs.Writers.{IsTied, writer_refusal, steps_left_of, kind_of_store}
pub use Rattle.latch_table.specs.Writers.{Steps, Finds, Begins, state_with_update, state_after_step}
pub use Rattle.latch_table.specs.Writers.{OnTheWay, Finishes}
pub use Rattle.latch_table.specs.declared.knowledge.Knowledge.{Knowledge}
pub use Rattle.latch_table.specs.declared.knowledge.ReaderKnowledge.{ReaderKnowledge}
pub use Rattle.latch_table.specs.declared.knowledge.WriterKnowledge.{WriterKnowledge}
pub use Rattle.latch_table.specs.declared.readers.Try.{Try}
pub use Rattle.latch_table.specs.declared.readers.Try.TheVariants.{Answered, Retry}
pub use Rattle.order_laws.specs.Orders.{Order, IsLawful}
pub use Rattle.order_laws.specs.Tables.{IsLook, look, IsTable}
pub use Rattle.order_laws.specs.declared.items.Item.{Item}
pub use Rattle.table_updates.specs.Updates.{replay, after, refusal_for}
pub use Rattle.table_updates.specs.declared.updates.Update.{Update}
pub use Rattle.word_layout.proofs.HoldsLemmas.{size_items, size_listed, flip_adds}
pub use Rattle.word_layout.proofs.StoreLemmas.{length_after, copy_next}
pub use Rattle.word_layout.specs.Layouts.{capacity_of}
pub use Rattle.word_layout.specs.Stores.{words_after, words_after_all}
pub use Rattle.word_layout.specs.Wider.{wider_words}
pub use Rattle.word_layout.specs.Words.{at, item_at, root_word, left_word, right_word, Nodes, none}
pub use Rattle.word_layout.specs.Words.{fork, listed, items, words_for, HoldsTable, words_per_node}
pub use Rattle.word_layout.specs.declared.layouts.Layout.{Layout}
pub use Rattle.word_layout.specs.declared.stores.Store.{Store}
