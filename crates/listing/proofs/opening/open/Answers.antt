use Rattle.listing.proofs.Words.{◌≡◌, ◌∙◌, Bool, ap, subst, sym, find, is_some, option_copied}
use Rattle.listing.proofs.Words.{lines_of, all_notes, is_of_kallsyms, AreBy, listed_in, notes_of}
use Rattle.listing.proofs.Words.{symbols_of, symbols_in, build_of_listed, bounds_for}
use Rattle.listing.proofs.Words.{built_in_region, usual_bounds_of, BoundNames}
use Rattle.std.proofs.Common.{Option}
use Rattle.listing.specs.declared.listing_notes.ListingNote.{ListingNote}
use Rattle.listing.specs.declared.listing_notes.ListingNotes.{ListingNotes}
use Rattle.listing.proofs.ListingNoteLemmas.{bounds_are, copied_none, kernel_named}
use Rattle.listing.specs.Opening.{parts_alone}
use Rattle.listing.proofs.opening.open.Goals as goal

pub note_of_kallsyms-requires-clause-kernel : goal.note_of_kallsyms-requires-clause-kernel
note_of_kallsyms-requires-clause-kernel c = λ has.
    let names = c.unwrap_or-names.result.now in
    kernel_named c.args.with_mapping names (symbols_in (lines_of c.args.listings.now.kallsyms.now))
    (ap (λ s. is_some (built_in_region names s)) (sym c.in_ok-symbols.ensures.lines)
    ∙ sym c.has_region-has_kernel.ensures ∙ has)

pub returns-clause-opened : goal.returns-clause-opened
returns-clause-opened c =
    let kernel = option_copied c.args.kernel in
    let mapping = c.args.with_mapping in
    let l = listed_in c.args.listings.now in
    let symbols = c.in_ok-symbols.ensures.lines in
    let built = c.in_ok-built.ensures.built in
    let b = c.in_ok-built.built in
    let kept = c.of_listed-counts.result.symbols in
    let named : c.unwrap_or-names.result.now ≡ bounds_for kernel (symbols_of mapping l.kallsyms) =
    bounds_are c.args.kernel _ c.unwrap_or-names.result (symbols_of mapping l.kallsyms)
    c.unwrap_or-names.ensures (c.usual_bounds-usual.ensures ∙ ap usual_bounds_of symbols) in
    let note : BoundNames → Bool → Option ListingNote =
    λ names alone. find (is_of_kallsyms names alone l.kallsyms kept) all_notes in
    let noted = c.note_of_kallsyms.ensures ∙ ap (λ names. note names c.is_none.result) named
    ∙ ap (note (bounds_for kernel (symbols_of mapping l.kallsyms)))
    (copied_none c.args.listings.now.modules c.is_none.result c.is_none.ensures) in
    let with_modules : Option ListingNote → ListingNotes =
    λ n. record { modules = n; kallsyms = c.note_of_kallsyms.result } in
    let with_kallsyms : Option ListingNote → ListingNotes = λ n. record {
      modules = (notes_of kernel mapping l b.catalog c.of_listed-counts.result).modules;
      kallsyms = n;
    } in
    record {
      said = record {
        kept = b.counts;
        built = subst (λ s. AreBy kernel l s l.modules b.catalog b.counts) symbols built.said;
        counts = c.of_listed-counts.ensures
            ∙ ap (λ n. build_of_listed n b.counts) c.in_ok-symbols.ensures.listed;
      };
      listing = built.listing ∙ ap (λ s. parts_alone kernel s l.modules) symbols;
      skipped_modules = built.skipped;
      skipped_symbols = c.in_ok-symbols.ensures.skipped;
      has_regions = c.has_regions.ensures;
      modules_hidden = built.hidden;
      unlisted = built.unlisted;
      symbols_hidden = c.are_symbols_hidden.ensures (lines_of l.kallsyms)
          c.in_ok-symbols.ensures.listed c.in_ok-symbols.ensures.skipped;
      usual = c.usual_bounds-usual.ensures ∙ ap usual_bounds_of symbols;
      notes = ap with_modules built.note ∙ ap with_kallsyms noted;
    }
