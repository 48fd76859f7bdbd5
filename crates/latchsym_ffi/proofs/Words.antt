-- The words that the proofs of this crate use, of whatever crate.
pub use Rattle.std.proofs.Common.{All, Bool, Bor, List, None, Option, Some, [], ap, append-nil}
pub use Rattle.std.proofs.Common.{arith, drop, false, get_or, inl, inr, length, length-append, map}
pub use Rattle.std.proofs.Common.{min, nat_le, refl, rules, slice_get, slice_index_or, slice_set}
pub use Rattle.std.proofs.Common.{subst, suc, sym, take, zero, ℕ, ⊎_elim, ◌++◌, ◌+◌, ◌-◌, ◌<◌, ◌^◌}
pub use Rattle.std.proofs.Common.{◌∙◌, ◌∷◌, ◌≡◌, ◌≤◌, true, find, if◌then◌else◌}
pub use Rattle.std.proofs.lemmas.Bool.{cases_lt}
pub use Rattle.std.proofs.lemmas.Grind.{flat_map-append}
pub use Rattle.std.proofs.lemmas.List.{get_or-map, get_or_default, length-map, length-set}
pub use Rattle.std.proofs.lemmas.List.{map-append, take_all, take_more, take_more_set}
pub use Rattle.std.proofs.lemmas.List.Elements.{All-append, All-contains, All-map, All-pop, All-set}
pub use Rattle.std.proofs.lemmas.List.Elements.{AllWithin-more_set}
pub use Rattle.std.proofs.lemmas.List.Sorted.{All-permutation, IsNonDecreasingBy-from_sort_by_key}
pub use Rattle.std.proofs.lemmas.List.Sorted.{IsPartitionPoint-from_clause, IsPartitionedBy-leb}
pub use Rattle.std.proofs.lemmas.List.Sorted.{IsPermutation-map, answers_always, length_permutation}
pub use Rattle.std.proofs.lemmas.Option.{get_or_from_slice_get, slice_get-get_or, slice_get-map}
pub use Rattle.std.proofs.lemmas.Result.{IfErr-weaker, IfOk-weaker}
pub use Rattle.std.specs.Cmp.{IsStrictWeakOrder}
pub use Rattle.std.specs.Global.{Global}
pub use Rattle.std.specs.List.{AllWithin, flat_map, range_with_len}
pub use Rattle.std.specs.List.Sorted.{IsNonDecreasingBy, IsPermutation, IsSortedBy}
pub use Rattle.std.specs.Option.{option_copied, option_map, option_map_or}
pub use Rattle.std.specs.Ordering.{is_lt, nat_cmp, ordering_then}
pub use Rattle.std.specs.Prelude.{Contains, IfOk, IfSome, MatchOption, SomeIff, unwrap_or, sum}
pub use Rattle.std.specs.Vec.Iter.{into_iter_items}
pub use denote.Param.Send.{IsSend, AllSend, owning_send, struct_send, sendable}
pub use Rattle.facts.proofs.Lists.{slice_get_some}
pub use Rattle.facts.proofs.Numbers.{is_lt-then}
pub use Rattle.facts.proofs.Ranges.{range-append_from_zero}
pub use Rattle.facts.proofs.Tests.{All-map_same}
pub use Rattle.latch_table.proofs.MemoryLemmas.{looked_answers}
pub use Rattle.latch_table.specs.Enlarging.{reader_beside}
pub use Rattle.latch_table.specs.Readers.{ReaderState}
pub use Rattle.latch_table.specs.Replacing.{RefusesReplacing}
pub use Rattle.latch_table.specs.Writers.{new_writer, WriterState}
pub use Rattle.latch_table.specs.declared.readers.Try.TheVariants.{Answered}
pub use Rattle.follower.specs.Following.{Followed}
pub use Rattle.latchsym_ffi.specs.Answers.{has_number}
pub use Rattle.latchsym_ffi.specs.Batches.{told_at, told_of}
pub use Rattle.latchsym_ffi.specs.Enlarging.{RefusesNodes}
pub use Rattle.latchsym_ffi.specs.Finding.{Known, known_at, known_call, known_code}
pub use Rattle.latchsym_ffi.specs.declared.finding.CatalogSymbol.{CatalogSymbol}
pub use Rattle.latchsym_ffi.specs.Flattening.{AreListed, AreRowsBelow}
pub use Rattle.latchsym_ffi.specs.Handles.{HoldsReader}
pub use Rattle.latchsym_ffi.specs.Kinds.{kind_in, reader_kind}
pub use Rattle.latchsym_ffi.specs.Named.{IsNamed}
pub use Rattle.latchsym_ffi.specs.Owning.{owns_content}
pub use Rattle.latchsym_ffi.specs.Replacing.{RefusesReplacingAs, item_told}
pub use Rattle.latchsym_ffi.specs.Tables.{AreOpened, first_reader}
pub use Rattle.latchsym_ffi.specs.Updates.{item_from}
pub use Rattle.latchsym_ffi.specs.Viewing.{AreRooms}
pub use Rattle.latchsym_ffi.specs.Views.{AreRowsOf, IsRegionRow, IsViewOf, entry_of_row}
pub use Rattle.latchsym_ffi.specs.Views.{found_without_letter, item_of_row, known_without_letter}
pub use Rattle.latchsym_ffi.specs.Views.{shown_row, symbol_of_row, symbols_at, symbols_below}
pub use Rattle.latchsym_ffi.specs.Views.{symbols_of, without_letter}
pub use Rattle.latchsym_ffi.specs.declared.answers.CallOutcome.TheVariants.{Done}
pub use Rattle.latchsym_ffi.specs.declared.contents.Content.{Content}
pub use Rattle.latchsym_ffi.specs.declared.contents.Content.TheVariants.{Catalog, Follower, Reader}
pub use Rattle.latchsym_ffi.specs.declared.contents.Content.TheVariants.{Writer}
pub use Rattle.latchsym_ffi.specs.declared.handles.Handle.{Handle}
pub use Rattle.latchsym_ffi.specs.declared.view_rows.ViewRegion.{ViewRegion}
pub use Rattle.latchsym_ffi.specs.declared.view_rows.ViewSymbol.{ViewSymbol}
pub use Rattle.latchsym_ffi.specs.declared.views.SeenRow.{SeenRow}
pub use Rattle.modules.proofs.IndexLemmas.{IsSplitBy-from_partition, above_at, comes_before_weak}
pub use Rattle.modules.proofs.IndexLemmas.{entry_at, last_below, length-entries_of, none_below}
pub use Rattle.modules.proofs.IndexLemmas.{rising}
pub use Rattle.modules.proofs.ItemLemmas.{all_regions, one_number_more, region_of}
pub use Rattle.modules.proofs.NearestLemmas.{found, found_is}
pub use Rattle.modules.proofs.RegionIndexLemmas.{last_ends_below, last_found, nothing_below}
pub use Rattle.modules.proofs.WithinLemmas.{before_within, none_within, reach_within, some_within}
pub use Rattle.modules.specs.Around.{address_above, symbol_below}
pub use Rattle.modules.specs.Catalogs.{module_of, regions_of}
pub use Rattle.modules.specs.Entries.{CatalogEntries, ModuleEntry, SymbolEntry}
pub use Rattle.modules.specs.Found.{symbol_found_at, symbols_from}
pub use Rattle.modules.specs.Index.{IsSplit, IsSplitBy, comes_before, index_entries_of}
pub use Rattle.modules.specs.Items.{item_of_address, items_at, items_below, items_of}
pub use Rattle.modules.specs.Loads.{item_of}
pub use Rattle.modules.specs.RegionIndexes.{IsIndexOf, IsItemSplit}
pub use Rattle.modules.specs.declared.symbols.IndexEntry.{IndexEntry}
pub use Rattle.order_laws.proofs.HalfOpenLemmas.{found_holds}
pub use Rattle.order_laws.specs.Orders.{half_open}
pub use Rattle.order_laws.specs.declared.items.Item.{Item}
pub use Rattle.order_laws.specs.declared.refusals.Refusal.TheVariants.{OutOfMemory}
pub use Rattle.std_alloc.proofs.SendSync.{lies, quiet}
pub use Rattle.table_updates.specs.Updates.{replay}
