use Rattle.listing.proofs.Words.{◌∙◌, Some, ap, false, length, subst, sym, find, option_and_then}
use Rattle.listing.proofs.Words.{option_copied, option_map, option_map_or, lines_of, all_notes}
use Rattle.listing.proofs.Words.{is_of_modules, module_counts, modules_in, symbols_of}
use Rattle.listing.proofs.Words.{unlisted_owner, are_modules_hidden, AreBy, AreByModules, listed_in}
use Rattle.listing.proofs.Words.{catalog_of, counts_of}
use Rattle.listing.specs.Opening.{parts_alone}
use Rattle.listing.proofs.opening.build.Goals as goal

pub returns-clause-built : goal.returns-clause-built
returns-clause-built c =
    let kernel = option_copied c.args.kernel in
    let l = listed_in c.args.listings.now in
    let text = c.in-Some.text.now in
    let symbols = c.args.symbols in
    let mapping = c.args.with_mapping in
    let catalog = c.in_ok-catalog-2.catalog in
    let listed = c.deref.ensures.value ∙ c.in_ok-lines.ensures.modules in
    let lines = c.lines_in-regions.ensures in
    let by : AreByModules kernel text c.lines_in-regions.result.now symbols catalog
    c.in_ok-catalog-2.counts = record {
      few = c.in_ok-catalog-2.ensures.few;
      catalog = c.in_ok-catalog-2.ensures.built
          ∙ ap (λ m. catalog_of kernel m c.lines_in-regions.result.now symbols) listed;
      counts = c.in_ok-catalog-2.ensures.counted
          ∙ ap (λ m. counts_of kernel m c.lines_in-regions.result.now symbols) listed;
    } in
    let of_text = ap (option_copied) c.in-Some.is in
    record {
      said = subst (λ m. AreBy kernel l symbols m catalog c.in_ok-catalog-2.counts) (sym of_text)
          (subst (λ r. AreByModules kernel text r symbols catalog c.in_ok-catalog-2.counts) lines
          by);
      listing = ap (parts_alone kernel symbols) (sym of_text);
      skipped = ap Some c.in_ok-lines.ensures.counts
          ∙ sym (ap (option_map (λ t. module_counts (lines_of t))) of_text);
      hidden = c.are_modules_hidden.ensures (lines_of text)
          (c.len.ensures ∙ sym c.deref.ensures.len ∙ ap length listed) c.in_ok-lines.ensures.counts
          ∙ sym (ap (λ m. option_map_or (λ t. are_modules_hidden (lines_of t)) m false) of_text);
      unlisted = c.unlisted_owner.ensures
          ∙ ap (unlisted_owner (modules_in (lines_of text))) c.requires.kept
          ∙ sym (ap (option_and_then (λ t.
          unlisted_owner (modules_in (lines_of t)) (symbols_of mapping l.kallsyms))) of_text);
      note = c.note_of_modules-note.ensures ∙ sym (ap (option_and_then
          (λ t. find (is_of_modules mapping t l.kallsyms catalog) all_notes)) of_text);
    }
