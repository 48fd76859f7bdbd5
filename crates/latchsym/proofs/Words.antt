-- The words that the proofs of this crate use, of whatever crate.
pub use Rattle.std.proofs.Common.{Bool, Err, List, None, Option, Some, [], ap, cond, false, inl}
pub use Rattle.std.proofs.Common.{inr, map, refl, subst, sym, true, ℕ, ◌∙◌, ◌≡◌}
pub use Rattle.std.specs.Borrow.{Bor}
pub use Rattle.std.specs.Option.{option_copied, option_map_or}
pub use Rattle.std.specs.Prelude.{unwrap_or}
pub use Rattle.command_listings.specs.Addresses.{IsAddressed}
pub use Rattle.command_listings.specs.Checks.{IsChecked}
pub use Rattle.command_listings.specs.GivenAnswers.{AnswersGiven, AnswersListings}
pub use Rattle.command_listings.specs.declared.sources.SymbolSource.{SymbolSource}
pub use Rattle.command_listings.specs.NoteTexts.{line_if_noted, IsNoted, lines_by}
pub use Rattle.clap.specs.Words.{Text}
pub use Rattle.command_parts.specs.Faults.{with_notes}
pub use Rattle.command_parts.specs.HistoryFiles.{AnswersHistory, symbols_alone}
pub use Rattle.command_parts.specs.OpenedCatalogs.{known_given, listing_failures}
pub use Rattle.histories.specs.Grammar.{HistoryPart}
pub use Rattle.histories.specs.ListingsAt.{listing_at}
pub use Rattle.latchsym.specs.JobNotes.{notes_text, bounds_of_lookup, run_lines, run_line}
pub use Rattle.latchsym.specs.Outcomes.{AnswersSources, HoldsOfInput, IsLogOf}
pub use Rattle.latchsym.specs.Outcomes.{IsLookedUpBy, IsOutcomeOfRun}
pub use Rattle.latchsym.specs.Reports.{IsConcluded, message_text}
pub use Rattle.command_line.specs.declared.requests.JobFault.TheVariants.{OutOfMemory}
pub use Rattle.listing.proofs.ListingNoteLemmas.{given_or}
pub use Rattle.modules.specs.Lines.{usual_bounds}
pub use Rattle.modules.specs.Listed.{BoundNames}
pub use Rattle.texts.proofs.OutputLemmas.{same_text, then}
