-- What comes of a log, by what its engine returned over its reader.
use Rattle.latchsym.proofs.Words.{◌∙◌, ap, subst, sym, List, ℕ, Option, Some, with_notes, IsLogOf}
use Rattle.latchsym.proofs.Words.{SymbolSource}
use Rattle.std.specs.Prelude.{◌≡◌, Result}
use Rattle.texts.specs.declared.counted.Counted.{Counted}
use Rattle.texts.specs.declared.output.Output.{Output}
use Rattle.listing.specs.ListingNotes.{no_notes}
use Rattle.command_parts.specs.declared.fault.Fault.{Fault}
use Rattle.command_parts.specs.declared.fault.Finished.{Finished}
use Rattle.command_parts.specs.declared.opened_catalogs.ListingReaders.{ListingReaders}
use Rattle.command_parts.specs.declared.outputs.Outputs.{Outputs}
use Rattle.command_listings.specs.declared.annotations.Annotate.{Annotate}
use Rattle.command_listings.specs.declared.annotations.LogReading.{LogReading}
use Rattle.command_listings.specs.declared.sources.Sources.{Sources}
use Rattle.latchsym.specs.Files.{FileTexts}
use Rattle.latchsym.specs.Outcomes.{IsOutcomeOfLog}

module _ {R W E : Type 0} (remaining : R → Option (List ℕ)) (file_text : FileTexts)
    (contents : W → Option (List ℕ)) (errors : E → Option (List ℕ)) (w : Output W)
    (e : Output E) (s : Sources) (a : Annotate) (l : ListingReaders R R R) (x x' : Counted R)
  where
    pub outcome_of : (symbols : SymbolSource) (reading : LogReading) (o o' : Outputs W E)
        (l1 l2 : ListingReaders R R R) (log log' : Option (Counted R)) (d d' : Result ℕ Fault)
        (out : Result Finished Fault)
        → s.symbols ≡ symbols → a.reading ≡ reading → log ≡ Some x → log' ≡ Some x' → o ≡ o'
        → l1 ≡ l2 → d ≡ d' → out ≡ with_notes no_notes d
        → IsLogOf remaining file_text contents errors w o'.writer e o'.errors s a symbols reading l
        l2 x
        x' d'
        → IsOutcomeOfLog remaining file_text contents errors w o.writer e o.errors s a l l1 log log'
        out
    outcome_of symbols reading o o' l1 l2 log log' d d' out is_s is_r is_log is_log' is_o is_l is_d
        is_out by =
        rw (is_log, is_log', is_o, is_l) (
          d',
          subst (λ source. IsLogOf remaining file_text contents errors w o'.writer e o'.errors s a
              source a.reading l l2 x x' d') (sym is_s) (subst (λ read. IsLogOf remaining file_text
              contents errors w o'.writer e o'.errors s a symbols read l l2 x x' d') (sym is_r) by),
          is_out ∙ ap (with_notes no_notes) is_d,
        )
