use Rattle.command_tables.proofs.Words.{◌≡◌, ◌∙◌, ℕ, List, [], Some, Result, Ok, Err, ap, subst}
use Rattle.command_tables.proofs.Words.{sym, Output, Delivered, WrotePart, IsOpened, listed_in}
use Rattle.command_tables.proofs.Words.{Tallies, tallies_of, tallies_with, OpenedCatalog, noted}
use Rattle.command_tables.proofs.Words.{Inputs, inputs, Query, lookup_lines, AnswersLookup}
use Rattle.command_tables.proofs.Words.{WritesLookup, bounds_beside, bounds_of_lookup, Fault, Write}
use Rattle.std.proofs.Common.{Option, is_some}
use Rattle.std.specs.Option.{option_copied}
use Rattle.modules.specs.Lines.{usual_bounds}
use Rattle.listing.proofs.ListingNoteLemmas.{copied_some}
use Rattle.order_laws.specs.declared.refusals.Refusal.TheVariants as refusal
use Rattle.command_parts.proofs.OpenedLemmas.{tallies_said}
use Rattle.command_parts.specs.declared.fault.Fault.TheVariants.{Refused}
use Rattle.command_tables.proofs.lookup.answer_with.Goals as goal

-- what was written over these listings is the text of the inputs
module _ {W : Type 0} (contents : W → Option (List ℕ)) (query : Query) (i : Inputs (List ℕ))
    (o : OpenedCatalog)
    (is : IsOpened (bounds_of_lookup query i.listings) (is_some i.listings.modules) i.listings o)
    (w w' : Output W) where
  text_is : lookup_lines query.form o.catalog query.rule i.said (tallies_of o)
      ≡ lookup_lines query.form o.catalog query.rule i.said (tallies_with i.listings o.built)
  text_is =
      ap (λ (t : Tallies). lookup_lines query.form o.catalog query.rule i.said t) (tallies_said
      (bounds_of_lookup query i.listings) (is_some i.listings.modules) i.listings o is)

  answered : (r : Result (Unit {0}) Fault) → WritesLookup contents o.catalog
      (lookup_lines query.form o.catalog query.rule i.said (tallies_of o)) w w' r
      → AnswersLookup contents query (Some (Ok i)) [] w w' (noted o.notes r)
  answered (Ok _) h = (
    tt,
    h.1.1,
    record {
      catalog = o.catalog;
      counts = o.built;
      said = is.said;
      few = h.0;
      wrote = subst (Delivered contents w w') text_is h.1;
      noted = is.notes;
    },
  )
  answered (Err (Refused refusal.OutOfMemory)) h = (tt, h)
  answered (Err (Refused refusal.BadCapacity)) h = (tt, h.0, (o.catalog, o.built, is.said, h.1))
  answered (Err Write) h = (
    tt,
    h.1.0,
    (
      o.notes,
      record {
        catalog = o.catalog;
        counts = o.built;
        said = is.said;
        few = h.0;
        wrote = subst (WrotePart contents w w') text_is h.1;
        noted = is.notes;
      },
    ),
  )
  answered (Err _) h = absurd h

pub returns : goal.returns
returns g c =
    let contents = g.W.Write.contents in
    let a = c.args in
    let query = a.options.now in
    let l = listed_in a.listings.now in
    let o = c.in_ok-opened.opened in
    let w = a.writer.now in
    let w' = c.write_lookup-done.new.writer in
    let kernel = c.bounds_beside-kernel.ensures ∙ ap (λ u.
    bounds_beside u (option_copied c.options.inside.kernel) l.modules) c.usual-usual.ensures
    ∙ ap (λ (q : Query). bounds_beside usual_bounds q.kernel l.modules) c.options.view_is in
    let mapping = c.is_some.ensures ∙ copied_some a.listings.now.modules in
    let is = subst (λ m. IsOpened (bounds_of_lookup query l) m l o) mapping
    (subst (λ k. IsOpened k c.is_some.result l o) kernel c.in_ok-opened.ensures.opened) in
    subst (AnswersLookup contents query (Some (Ok (inputs l a.addresses.now))) [] w w')
    (sym c.noted.ensures)
    (answered contents query (inputs l a.addresses.now) o is w w' c.write_lookup-done.result
    c.write_lookup-done.ensures)
