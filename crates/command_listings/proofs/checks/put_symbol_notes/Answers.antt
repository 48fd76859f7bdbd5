use Rattle.command_listings.proofs.Words.{rules, get_or, is_of_kallsyms}
use Rattle.listing.specs.declared.listing_notes.ListingNote.TheVariants as note
use Rattle.command_listings.proofs.WordLemmas.{note_said}
use Rattle.command_listings.proofs.checks.put_symbol_notes.Goals as goal

pub loop-note-preserved : goal.loop-note-preserved
loop-note-preserved g c =
    let a = c.args in
    let x = get_or c.all-notes.result.now c.loop-note.note-index note.Empty in
    note_said a.names.now a.file.now
    (is_of_kallsyms a.names.now a.facts.is_alone a.text.now a.facts.kept) _ _ x _
    c.loop-note-test.true (search rules) c.applies_to_kallsyms-applies.ensures
    c.loop-note.invariant c.put_note_where.ensures
