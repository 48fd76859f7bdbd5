-- The words that the proofs of this crate use, of whatever crate.
pub use Rattle.std.proofs.Common.{◌≡◌, ℕ, ◌≤◌, List, [], ◌∷◌, ◌++◌, length, take, get_or, flat_map}
pub use Rattle.std.proofs.Common.{ap, arith, Result, Ok, sym, ◌∙◌, subst, append-nil, zero, suc}
pub use Rattle.std.proofs.Common.{Some, None, Err, inl, refl, ◌<◌, inr, ⊎_elim, length-append, true}
pub use Rattle.std.proofs.Common.{false, option_map, map, ◌+◌, decimal, rules}
pub use Rattle.std.proofs.lemmas.Grind.{flat_map-append, common_steps}
pub use Rattle.std.proofs.lemmas.List.{take_more}
pub use Rattle.std.proofs.lemmas.Result.{err_from_is_err_and}
pub use Rattle.std.specs.FinMap.{get, get-empty}
pub use Rattle.std.specs.List.{filter_map, range_with_len, zip, list_any}
pub use Rattle.std.specs.Prelude.{Contains, option_and_then}
pub use Rattle.command_parts.specs.Faults.{with_notes, noted}
pub use Rattle.command_parts.specs.OpenedCatalogs.{AreReadAs, GivesListings, texts_in, known_given}
pub use Rattle.command_parts.specs.OpenedCatalogs.{listing_failures}
pub use Rattle.command_parts.specs.Readings.{AnswersInputs, Failures, HoldsOf, NoReaderFailed}
pub use Rattle.command_parts.specs.Readings.{OnlyFailed, last_failures, failures_in, known_text}
pub use Rattle.command_parts.specs.declared.fault.Fault.{Fault}
pub use Rattle.command_parts.specs.declared.fault.Fault.TheVariants.{BadLine, Read, Write}
pub use Rattle.command_tables.specs.Assignments.{IsAssigned, AreListed, change_in, key_in, name_in}
pub use Rattle.command_tables.specs.CatalogTables.{answer_at, AreInsertsOf, HasTable, HoldsBelow}
pub use Rattle.command_tables.specs.CatalogTables.{IsRefusedFor}
pub use Rattle.command_tables.specs.Inputs.{Inputs, inputs_after, inputs_of, inputs_with}
pub use Rattle.command_tables.specs.Inputs.{known_inputs, inputs, failures_behind}
pub use Rattle.command_tables.specs.LookupTexts.{Query, lookup_lines, counts_by, line_by}
pub use Rattle.command_tables.specs.Lookups.{AnswersLookup, IsLookupOf, addresses_known}
pub use Rattle.command_tables.specs.Lookups.{all_addresses, WritesLookup, bounds_beside}
pub use Rattle.command_tables.specs.Lookups.{bounds_of_lookup}
pub use Rattle.command_tables.specs.RunTexts.{count_of_answers, answers_text, numbered_text}
pub use Rattle.command_tables.specs.RunTexts.{writer_text, change_text}
pub use Rattle.command_tables.specs.Runs.{AnswersLines, AnswersRun, IsRunOf, IsServed, MayRun}
pub use Rattle.command_tables.specs.Runs.{TellsServed, status_of, script_known}
pub use Rattle.command_tables.specs.declared.assignments.Assignments.{Assignments}
pub use Rattle.facts.proofs.Numbers.{below_min, past_min}
pub use Rattle.latch_core.proofs.SoundLemmas.{current_at_rest, none_begun, table_at_rest}
pub use Rattle.latch_core.proofs.SoundLemmas.{sequence_at_rest}
pub use Rattle.latch_steps.proofs.IdleLemmas.{NoLookup, found_at_end, none_at_end, same_readers}
pub use Rattle.latch_steps.proofs.IdleLemmas.{writes_keep}
pub use Rattle.latch_steps.specs.AtOnce.{FindsNow, IsFoundFromAny, IsNotBegun, table_in, IsSettled}
pub use Rattle.latch_steps.specs.AtOnce.{Settles}
pub use Rattle.latch_steps.specs.Runs.{last_of, opening, Moment, accepted}
pub use Rattle.latch_steps.specs.Steps.{IsBegin}
pub use Rattle.latch_steps.specs.Worlds.{RepresentsMoment, layout_in, IsAfter}
pub use Rattle.latch_steps.specs.declared.worlds.World.{World}
pub use Rattle.listing.specs.Opening.{Given, Listed, listings_of, IsOpened, listed_in}
pub use Rattle.listing.specs.Tallies.{Tallies, tallies_of, tallies_with}
pub use Rattle.listing.specs.declared.opening.OpenedCatalog.{OpenedCatalog}
pub use Rattle.modules.proofs.NumberedItemLemmas.{as_many, has_addresses, is_apart_from}
pub use Rattle.modules.proofs.NumberedItemLemmas.{none_overlap, some_left}
pub use Rattle.modules.specs.Catalogs.{IsSoundCatalog, regions_of}
pub use Rattle.modules.specs.Entries.{CatalogEntries}
pub use Rattle.modules.specs.Items.{items_of, items_at, items_below}
pub use Rattle.order_laws.specs.Orders.{Order, half_open, half_open_lawful}
pub use Rattle.order_laws.specs.Tables.{IsTable, look}
pub use Rattle.order_laws.specs.declared.half_open_ranges.HalfOpen.{HalfOpen}
pub use Rattle.order_laws.specs.declared.items.Item.{Item}
pub use Rattle.order_laws.specs.declared.refusals.Refusal.{Refusal}
pub use Rattle.order_laws.specs.declared.refusals.Refusal.TheVariants.{OutOfMemory}
pub use Rattle.run_files.specs.Scripts.{script_of, most_writers}
pub use Rattle.run_files.specs.declared.scripts.ScriptLine.{ScriptLine}
pub use Rattle.table_updates.specs.Updates.{replay, erased, inserted, refusal_for}
pub use Rattle.table_updates.specs.declared.updates.Update.{Update}
pub use Rattle.texts.proofs.OutputLemmas.{then, all_delivered, part_written, same_text, pair_said}
pub use Rattle.texts.proofs.OutputLemmas.{pairs_said}
pub use Rattle.texts.proofs.ReadLemmas.{of_read}
pub use Rattle.texts.specs.Counted.{Rose, device_of, failures_of}
pub use Rattle.texts.specs.Output.{Says, Delivered, WrotePart}
pub use Rattle.texts.specs.declared.output.Output.{Output}
pub use Rattle.word_layout.specs.Layouts.{capacity_of, limit_of}
pub use Rattle.word_layout.specs.Words.{at}
pub use Rattle.word_layout.specs.declared.layouts.Layout.{Layout}
