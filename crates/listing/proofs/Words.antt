-- The words that the proofs of this crate use, of whatever crate.
pub use Rattle.std.proofs.Common.{◌≡◌, ◌∙◌, ℕ, ◌+◌, ◌<◌, false, cond, List, [], ◌∷◌, ◌++◌, length}
pub use Rattle.std.proofs.Common.{get_or, take, sym, ap, zero, suc, Bool, true≢false, nat_lt, Some}
pub use Rattle.std.proofs.Common.{None, refl, ⊎_elim, filter, arith, Ok, Err, Result, ◌==◌, ◌^◌}
pub use Rattle.std.proofs.Common.{◌⊎◌, inl, inr, subst, MatchResult, ◌≤◌, length-append, nat_le}
pub use Rattle.std.proofs.Common.{drop, ◌-◌, length-drop, IfSome, rules, tests, flat_map}
pub use Rattle.std.proofs.Math.Bool.{and-false, and-true, or-false}
pub use Rattle.std.proofs.lemmas.Bool.{or_cases, or_left, or_parts, or_right, lt-ltb, eq-eqb}
pub use Rattle.std.proofs.lemmas.Bool.{ne_eqb, and_parts, cases_order, eqb-true}
pub use Rattle.std.proofs.lemmas.List.{take_more, length-map, get_or-take, length-take, take_rest}
pub use Rattle.std.proofs.lemmas.List.{get_or-drop}
pub use Rattle.std.proofs.lemmas.List.Elements.{All-cons, filter-append}
pub use Rattle.std.proofs.lemmas.List.Sums.{sum_by-cons, count_by-le-length, sum_by-append}
pub use Rattle.std.proofs.lemmas.List.Sums.{sum_by-set, AllPass-from_list_all}
pub use Rattle.std.specs.Global.{Vec}
pub use Rattle.std.specs.List.{list_all, list_any, cons_option, position_from, filter_map}
pub use Rattle.std.specs.List.{onto_first, range_with_len}
pub use Rattle.std.specs.Option.{option_and_then, option_copied, option_map, option_map_or}
pub use Rattle.std.specs.Prelude.{find, is_none, is_some, nat_eq, slice_get, unwrap_or, count_by}
pub use Rattle.std.specs.Prelude.{All, codes, fold, slice_index_or, IfOk, slice_index, sum}
pub use Rattle.std.specs.Result.{result_ok}
pub use Rattle.std.specs.Str.{bytes_eq}
pub use Rattle.listing.specs.Addresses.{is_blank_end, without_blank_end, addresses_of}
pub use Rattle.listing.specs.ListingNotes.{HasBounds, has_symbols, lacks_symbols, all_notes}
pub use Rattle.listing.specs.ListingNotes.{is_of_modules, is_of_kallsyms}
pub use Rattle.listing.specs.Looks.{is_kernel_symbol, are_modules_hidden, are_symbols_hidden}
pub use Rattle.listing.specs.Looks.{is_hidden_module, is_hidden_symbol, is_shown_module}
pub use Rattle.listing.specs.Looks.{is_shown_symbol, is_module_line, is_symbol_line, begins_wide}
pub use Rattle.listing.specs.Looks.{is_narrow, is_of_kernel}
pub use Rattle.listing.specs.ModuleListing.{module_of_line, module_place, modules_in}
pub use Rattle.listing.specs.ModuleListing.{checked_module, module_of_words, runs_of, module_causes}
pub use Rattle.listing.specs.ModuleListing.{module_counts}
pub use Rattle.listing.specs.Opening.{AreBy, AreByModules, listed_in, notes_of, symbols_of}
pub use Rattle.listing.specs.Overlaps.{do_modules_overlap, has_module, has_name, is_left_out}
pub use Rattle.listing.specs.Overlaps.{is_listed_name, names_left_out}
pub use Rattle.listing.specs.Owners.{is_owner, is_unlisted, owner_called, unlisted_owner}
pub use Rattle.listing.specs.Skipping.{is_skipped_for, skipped_for, counts_by, one_more_at}
pub use Rattle.listing.specs.Skipping.{taken_by}
pub use Rattle.listing.specs.SymbolListing.{is_mapping, symbols_with, symbol_of, symbol_place}
pub use Rattle.listing.specs.SymbolListing.{symbols_in, address_in, cut_at, symbol_causes}
pub use Rattle.listing.specs.SymbolListing.{bracketed, symbol_before, symbol_of_text}
pub use Rattle.listing.specs.Tallies.{rows_of, row_text}
pub use Rattle.listing.specs.declared.module_listing.SkippedModule.{SkippedModule}
pub use Rattle.memchr.specs.Find.{Nowhere, Passes, is_byte, NoneBefore, is_byte2, IsFirstByte}
pub use Rattle.modules.specs.Catalogs.{module_number_of, catalog_of, counts_of, entry_for}
pub use Rattle.modules.specs.Catalogs.{module_of, build_of_listed}
pub use Rattle.modules.specs.Entries.{CatalogEntries, ModuleEntry}
pub use Rattle.modules.specs.Lines.{bounds_for, built_in_region, first_address, usual_bounds_of}
pub use Rattle.modules.specs.Lines.{fits, kernel_regions, region_fits}
pub use Rattle.modules.specs.Listed.{BoundNames, ListedSymbol, ListedModule, ListedRegion}
pub use Rattle.texts.proofs.LineCutLemmas.{Words, first_fails, later, line_here, line_nowhere}
pub use Rattle.texts.proofs.LineCutLemmas.{split_here, split_nowhere}
pub use Rattle.texts.specs.Lines.{longest_line, words_of, lines_of}
pub use Rattle.texts.specs.Numbers.{number_of, numeral}
