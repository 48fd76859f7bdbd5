-- The definitions of this crate and of those below, of whatever module, that its proofs use.
pub use Rattle.modules.specs.Accepted.{Accepted, accepted_of, accepted_with, after_module, names_of}
pub use Rattle.modules.specs.Accepted.{none_yet, taken_regions}
pub use Rattle.modules.specs.Admissions.{IsAdmission, admission_view}
pub use Rattle.modules.specs.Around.{address_above, is_nearest, is_next, symbol_below}
pub use Rattle.modules.specs.Building.{AreModules, EachMade, built_in_with, kernel_at, module_with}
pub use Rattle.modules.specs.Building.{placed_module_of}
pub use Rattle.modules.specs.Catalogs.{IsNoneAbsent, IsSoundCatalog, built_in_of, catalog_of}
pub use Rattle.modules.specs.Catalogs.{catalog_with, counts_of, counts_with, entries_of, entry_for}
pub use Rattle.modules.specs.Catalogs.{kept_counts, module_of, regions_of}
pub use Rattle.modules.specs.Entries.{CatalogEntries, ModuleEntry, SymbolEntry}
pub use Rattle.modules.specs.Found.{Found, IsFound, ReachesUpTo, found_in, symbol_at}
pub use Rattle.modules.specs.Found.{symbol_found_at, symbols_from}
pub use Rattle.modules.specs.FromSymbols.{HasItsRegions, IsFromSymbols, is_kept_line, owner_names}
pub use Rattle.modules.specs.ByName.{IsCut, IsSortedByName, comes_first}
pub use Rattle.modules.specs.Grouped.{lines_at}
pub use Rattle.modules.specs.Index.{IsBorder, IsFirstBorder, IsFirstOf, IsIndex, IsOrdered}
pub use Rattle.modules.specs.Index.{IsRising, IsSplit, IsSplitBy, comes_before, index_entries_of}
pub use Rattle.modules.specs.Index.{symbol_of_entry}
pub use Rattle.modules.specs.Items.{item_of_address, items_at, items_below, items_of}
pub use Rattle.modules.specs.Gathering.{Gathers}
pub use Rattle.modules.specs.Kept.{AreDistinctNames, belongs, entry_of, is_built_in, is_kept}
pub use Rattle.modules.specs.Kept.{is_used, lies_in, symbols_that}
pub use Rattle.modules.specs.LineMarks.{AreLeft, AreNamed, HasFirstLine, HaveFirstLines}
pub use Rattle.modules.specs.LineMarks.{is_kept_mark, kept_numbers, kernel_marks, line_marks}
pub use Rattle.modules.specs.LineMarks.{mark_of, marks_of, modules_numbered, name_of, number_for}
pub use Rattle.modules.specs.LineMarks.{number_in, symbol_marks, with_number}
pub use Rattle.modules.specs.Lines.{built_in_region, first_address, first_owner, fits, is_region}
pub use Rattle.modules.specs.Lines.{kernel_regions, module_line_region, region_fits}
pub use Rattle.modules.specs.Lines.{region_line_region, with_apart}
pub use Rattle.modules.specs.Listed.{BoundNames, ListedModule, ListedRegion, ListedSymbol}
pub use Rattle.modules.specs.Loads.{GivesOrLacksMemory, GivesSome, TakesMemory, drop_init_update}
pub use Rattle.modules.specs.Loads.{has_no_items, is_erasing, is_inserting, is_item_of, item_of}
pub use Rattle.modules.specs.Loads.{load_of, load_update, only_of, same_items, unload_update}
pub use Rattle.modules.specs.Loads.{update_of}
pub use Rattle.modules.specs.MarkedModules.{StandsFor, numbered_module, ranges_of}
pub use Rattle.modules.specs.Marks.{AreLaid, AreRegions, Follows, GoesOn, HoldsFor, IsFirstMark}
pub use Rattle.modules.specs.Marks.{IsNearestMark, IsNextMark, Owns}
pub use Rattle.modules.specs.Modules.{module_view}
pub use Rattle.modules.specs.Names.{names_in, with_name}
pub use Rattle.modules.specs.FoundNames.{names_at}
pub use Rattle.modules.specs.Owners.{goes_on, is_in_page, is_nearest_line, is_next_line}
pub use Rattle.modules.specs.Owners.{is_of_one_module, is_outside, module_of_address, post_above}
pub use Rattle.modules.specs.Owners.{post_below, posts, reach}
pub use Rattle.modules.specs.Parts.{is_core, is_init, is_of}
pub use Rattle.modules.specs.Placed.{IsPlaced, PlacedModule, are_few, has_core, lines_named}
pub use Rattle.modules.specs.Placed.{placed_alone, placed_by, placed_line}
pub use Rattle.modules.specs.PlacedModules.{AreSoundModules}
pub use Rattle.modules.specs.RegionIndexes.{IsIndexOf, IsItemSplit}
pub use Rattle.modules.specs.Regions.{AreApart, AreRising, IsSpread, are_beside, holds, is_apart}
pub use Rattle.modules.specs.Regions.{lie_apart, lies_in_any}
pub use Rattle.modules.specs.Runs.{line_of, lines_of_all, lines_of_run}
pub use Rattle.modules.specs.SymbolNames.{IsNamesOf, SymbolName, named_symbols, names_of_symbols}
pub use Rattle.modules.specs.SymbolNames.{names_below, names_in_module, all_of_name}
pub use Rattle.modules.specs.Starts.{first_start, start_at, start_where, starts_of}
pub use Rattle.modules.specs.declared.admission.Admission.{Admission}
pub use Rattle.modules.specs.declared.catalog.BuildCounts.{BuildCounts}
pub use Rattle.modules.specs.declared.catalog.Held.{Held}
pub use Rattle.modules.specs.declared.gathering.GatheredSymbols.{GatheredSymbols}
pub use Rattle.modules.specs.declared.shared_listings.SharedRun.{SharedRun}
pub use Rattle.modules.specs.declared.lines.Part.{Part}
pub use Rattle.modules.specs.declared.lines.Part.TheVariants.{Core}
pub use Rattle.modules.specs.declared.marks.Mark.{Mark}
pub use Rattle.modules.specs.declared.symbol_lines.Run.{Run}
pub use Rattle.modules.specs.declared.symbols.IndexEntry.{IndexEntry}
pub use Rattle.order_laws.specs.Orders.{half_open, half_open_lawful}
pub use Rattle.order_laws.specs.Tables.{IsLook, look, meets}
pub use Rattle.order_laws.specs.declared.items.Item.{Item}
pub use Rattle.order_laws.specs.declared.refusals.Refusal.{Refusal}
pub use Rattle.order_laws.specs.declared.refusals.Refusal.TheVariants.{OutOfMemory, UnknownModule}
pub use Rattle.table_updates.specs.Updates.{erased, inserted, refusal_for, some_overlap}
pub use Rattle.table_updates.specs.declared.updates.Update.{Update}
pub use Rattle.table_updates.specs.declared.updates.Update.TheVariants.{Batch}
