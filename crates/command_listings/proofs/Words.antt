-- The words that the proofs of this crate use, of whatever crate.
pub use Rattle.std.proofs.Common.{Bool, Err, List, None, Ok, Option, Result, Some, [], ap}
pub use Rattle.std.proofs.Common.{append-nil, append_assoc, arith, cond, decimal, drop, false}
pub use Rattle.std.proofs.Common.{flat_map, get_or, inl, inr, length, map, nat_le, nat_lt}
pub use Rattle.std.proofs.Common.{option_map, refl, rules, subst, suc, sym, take, true, zero, ℕ}
pub use Rattle.std.proofs.Common.{⊎_elim, ◌++◌, ◌+◌, ◌-◌, ◌<◌, ◌==◌, ◌||◌, ◌∙◌, ◌∷◌, ◌≡◌, ◌≤◌}
pub use Rattle.std.proofs.Common.{length-append}
pub use Rattle.std.proofs.Math.Bool.{or-false, or-true}
pub use Rattle.std.proofs.lemmas.Bool.{and_parts, eqb-true, false_from_ne_true, ltb-true, leb-false}
pub use Rattle.std.proofs.lemmas.Bool.Decides.{same_from_decides}
pub use Rattle.std.proofs.lemmas.Grind.{flat_map-append}
pub use Rattle.std.proofs.lemmas.List.{map-append, take-append-drop, nil_from_length, take_more}
pub use Rattle.std.proofs.lemmas.List.{take_rest, take_all}
pub use Rattle.std.proofs.lemmas.List.Elements.{filter-append, filter_map-append, filter_passes}
pub use Rattle.std.proofs.lemmas.List.Folds.{list_any-append}
pub use Rattle.std.proofs.lemmas.List.Sorted.{IsPartitionPoint-from_clause, IsPartitionedBy-leb}
pub use Rattle.std.proofs.lemmas.List.Sorted.{IsPartitionedBy-ltb}
pub use Rattle.std.proofs.lemmas.Map.Steps.{set_value_same}
pub use Rattle.std.proofs.lemmas.Map.Text.{btree_map_updates_str}
pub use Rattle.std.proofs.lemmas.Slice.Eq.{bytes_eq-Decides}
pub use Rattle.std.specs.BTreeMap.{BTreeMap, UpdatesBy, get_by, is_at}
pub use Rattle.std.specs.Borrow.{Bor}
pub use Rattle.std.specs.Cmp.Lexicographic.{slice_cmp}
pub use Rattle.std.specs.Global.{Vec}
pub use Rattle.std.specs.List.{cons_option, list_any}
pub use Rattle.std.specs.Map.{lookup}
pub use Rattle.std.specs.Option.{option_copied, option_to_list, is_none, option_map_or}
pub use Rattle.std.specs.Ordering.{nat_cmp}
pub use Rattle.std.specs.Prelude.{All, IfSome, MatchOption, option_and_then, unwrap_or, ◌&&◌}
pub use Rattle.std.specs.Prelude.{nat_eq, ◌⊎◌, ◌^◌, IsErrAnd, is_some, not, slice_get}
pub use Rattle.std.specs.Prelude.{slice_index_or}
pub use Rattle.std.specs.Result.{result_ok}
pub use Rattle.std.specs.Str.{bytes_eq}
pub use Rattle.command_listings.specs.AddressTexts.{has_any_line, has_line, is_told, owner_member}
pub use Rattle.command_listings.specs.AddressTexts.{owner_text, symbols_text, told_line, told_lines}
pub use Rattle.command_listings.specs.AddressTexts.{word_text, words_text}
pub use Rattle.command_listings.specs.Addresses.{IsAddressed}
pub use Rattle.command_listings.specs.Annotations.{AnnotatesBy, AnnotatesLog, IsTold, IsEndTold}
pub use Rattle.command_listings.specs.Annotations.{listed_kernel, stopped}
pub use Rattle.command_listings.specs.AskedNames.{AskedSymbols, asked_of, cut_at_last, cut_before}
pub use Rattle.command_listings.specs.AskedNames.{distance_in, parted_by, without_last}
pub use Rattle.command_listings.specs.Checks.{IsChecked, IsReport, lines_on_modules, modules_name}
pub use Rattle.command_listings.specs.Checks.{opened_report, report, report_by}
pub use Rattle.command_listings.specs.Following.{AreAnswersOf, AreAsKnown, By, EndsBy, FollowsTurns}
pub use Rattle.command_listings.specs.Following.{GivesCatalog, GoesOn, HasNoNames, IsAskedFor}
pub use Rattle.command_listings.specs.Following.{IsCutOff, IsEnded, IsFollowed, IsNamed}
pub use Rattle.command_listings.specs.Following.{IsNamedAtEnd, IsNamedIn, IsNamingAfter, IsNamingOf}
pub use Rattle.command_listings.specs.Following.{IsNoCatalog, IsOutOfMemory, IsPutBy, IsStarved}
pub use Rattle.command_listings.specs.Following.{IsTooLong, IsUnread, NamesAfter, NamesBlock}
pub use Rattle.command_listings.specs.Following.{NamesLast, NamesPart, NamesSome, Naming, PassesBy}
pub use Rattle.command_listings.specs.Following.{Point, PutsAs, PutsIfNamed, PutsNameless, PutsPart}
pub use Rattle.command_listings.specs.Following.{ReadsOnce, TakesPart, Turn, Unnamed, answering_of}
pub use Rattle.command_listings.specs.Following.{asks_for_names, carried_by, events_of, first_point}
pub use Rattle.command_listings.specs.Following.{is_told_after, no_turn, one_more, point_after}
pub use Rattle.command_listings.specs.Following.{read_in, told_once}
pub use Rattle.command_listings.specs.LastingLogs.{Block, Event, Failed, Happen, IsFaultOfListings}
pub use Rattle.command_listings.specs.LastingLogs.{Listings, ReadsBlock, ReadsListings, Seen}
pub use Rattle.command_listings.specs.declared.following.Followed.{Followed}
pub use Rattle.command_listings.specs.GivenAnswers.{AnswersGiven, AnswersListings, IsTextWritten}
pub use Rattle.command_listings.specs.KeptSymbols.{IsSought, Kept, end_of, found_by, is_owner}
pub use Rattle.command_listings.specs.KeptSymbols.{is_sought, kept_at_its_address, kept_in}
pub use Rattle.command_listings.specs.KeptSymbols.{kept_line, kept_symbol, kept_symbols, named}
pub use Rattle.command_listings.specs.KeptSymbols.{sought}
pub use Rattle.command_listings.specs.LogAnswers.{answered_by}
pub use Rattle.modules.specs.AtAddress.{lists_symbol}
pub use Rattle.command_listings.specs.NoteTexts.{IsNoted, applying_lines, line_if_noted, line_where}
pub use Rattle.command_listings.specs.NoteTexts.{message_of, note_line, note_lines, lines_by}
pub use Rattle.command_listings.specs.NoteTexts.{note_head, noted_bounds}
pub use Rattle.command_listings.specs.declared.address_texts.AddressOptions.{AddressOptions}
pub use Rattle.command_listings.specs.declared.annotations.Annotate.{Annotate}
pub use Rattle.command_listings.specs.declared.asked_names.Distance.{Distance}
pub use Rattle.command_listings.specs.declared.sources.Sources.{Sources}
pub use Rattle.command_parts.proofs.FaultLemmas.{handed_on}
pub use Rattle.command_parts.proofs.HistoryLemmas.{no_history, not_understood, read_said, unread}
pub use Rattle.command_parts.proofs.OpenedLemmas.{catalog_opened, holds_at, same_texts}
pub use Rattle.command_parts.proofs.OpenedLemmas.{tallies_said}
pub use Rattle.command_parts.specs.HistoryFiles.{symbols_alone}
pub use Rattle.command_parts.specs.JsonTexts.{address_member, symbol_members}
pub use Rattle.command_parts.specs.OpenedCatalogs.{AreReadAs, HasBadRegion, HasCrowdedRegions}
pub use Rattle.command_parts.specs.OpenedCatalogs.{IsCatalogOf, OpensCatalog, known_given}
pub use Rattle.command_parts.specs.OpenedCatalogs.{listing_failures, texts_in}
pub use Rattle.command_parts.specs.Readings.{HoldsOf, Failures, NoReaderFailed}
pub use Rattle.command_parts.specs.declared.fault.Fault.{Fault}
pub use Rattle.command_parts.specs.declared.fault.Fault.TheVariants.{BadLine, Read, Refused}
pub use Rattle.command_parts.specs.declared.fault.Fault.TheVariants.{TooLong, Write}
pub use Rattle.command_parts.specs.declared.opened_catalogs.ListingTexts.{ListingTexts}
pub use Rattle.facts.proofs.Lists.{moved_over}
pub use Rattle.histories.specs.Grammar.{HistoryPart}
pub use Rattle.histories.specs.ListingsAt.{listing_at}
pub use Rattle.listing.proofs.ListingNoteLemmas.{bounds_are, given_or}
pub use Rattle.listing.specs.ListingNotes.{is_of_kallsyms, is_of_modules}
pub use Rattle.listing.specs.Looks.{are_modules_hidden, are_symbols_hidden, is_narrow}
pub use Rattle.listing.specs.Opening.{Given, IsOpened, listings_of, symbols_of}
pub use Rattle.listing.specs.SymbolListing.{is_mapping, symbol_of, symbols_in}
pub use Rattle.listing.specs.Tallies.{Tallies, counts_text, tallies_of}
pub use Rattle.listing.specs.declared.listing_notes.ListingNote.{ListingNote}
pub use Rattle.logs.specs.declared.annotation.Findings.{Findings}
pub use Rattle.logs.specs.declared.annotation.LogFault.{LogFault}
pub use Rattle.memchr.specs.Find.{Nowhere, Passes, is_byte}
pub use Rattle.modules.proofs.FindLemmas.{found_by_place}
pub use Rattle.modules.specs.Catalogs.{module_of}
pub use Rattle.modules.specs.Entries.{CatalogEntries, ModuleEntry, SymbolEntry}
pub use Rattle.modules.specs.Found.{Found, IsFound, found_in, symbol_at, symbols_from}
pub use Rattle.modules.specs.Items.{item_of_address}
pub use Rattle.modules.specs.Lines.{bounds_for, usual_bounds}
pub use Rattle.modules.specs.Listed.{BoundNames, ListedSymbol}
pub use Rattle.modules.specs.Regions.{holds}
pub use Rattle.order_laws.specs.declared.items.Item.{Item}
pub use Rattle.texts.proofs.OutputLemmas.{all_delivered, part_written, piece_said, same_text, then}
pub use Rattle.texts.proofs.OutputLemmas.{then_flushed}
pub use Rattle.texts.specs.Exact.{hexadecimal}
pub use Rattle.texts.specs.Lines.{lines_of}
pub use Rattle.texts.specs.Output.{Delivered, Delivers, Says, WrotePart, has_failed}
pub use Rattle.texts.specs.declared.counted.Counted.{Counted}
pub use Rattle.texts.specs.declared.output.Output.{Output}
