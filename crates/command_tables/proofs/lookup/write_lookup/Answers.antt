use Rattle.command_tables.proofs.Words.{◌++◌, ◌∙◌, ap, flat_map, map, answer_at, Tallies}
use Rattle.command_tables.proofs.Words.{tallies_of, same_text, Query, counts_by, line_by}
use Rattle.command_tables.proofs.Words.{lookup_lines, WritesLookup}
use Rattle.command_parts.proofs.WrittenLemmas.{said_written}
use Rattle.command_tables.proofs.lookup.write_lookup.Goals as goal

pub returns : goal.returns
returns g c =
    let a = c.args in
    let contents = g.W.Write.contents in
    let catalog = a.opened.now.catalog in
    let options = a.options.now in
    let w = a.writer.now in
    let w' = c.put_lookup.new.writer in
    let text =
    lookup_lines options.form catalog options.rule a.addresses.now (tallies_of a.opened.now) in
    let form = c.options.inside.form in
    let rule = c.options.inside.rule in
    let lines =
    flat_map (line_by form catalog rule) (map (answer_at catalog rule) a.addresses.now) in
    let is =
    ap (λ x. flat_map (line_by form catalog rule) x ++ counts_by form c.tallies-tallies.result)
    (c.deref.ensures.value ∙ c.in_ok-answers.ensures.answers)
    ∙ ap (λ (t : Tallies). lines ++ counts_by form t) c.tallies-tallies.ensures
    ∙ ap (λ (q : Query). lookup_lines q.form catalog q.rule a.addresses.now
    (tallies_of a.opened.now)) c.options.view_is in
    let few = c.in_ok-answers.ensures.fits in
    let written = c.all_written.ensures in
    said_written contents w w' text (same_text is c.put_lookup.ensures.0, c.put_lookup.ensures.1)
    (WritesLookup contents catalog text w w') (λ u all. (few, all)) (λ part. (few, part))
    c.all_written.result written.written written.failed written.fault
