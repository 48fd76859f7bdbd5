use Rattle.command_listings.proofs.Words.{◌≡◌, ◌∙◌, ◌+◌, List, ℕ, ap, inr, is_narrow, lines_of}
use Rattle.command_listings.proofs.Words.{listed_kernel}
use Rattle.std.specs.Option.{option_copied}
use Rattle.histories.specs.ListingsAt.{listing_after}
use Rattle.command_listings.proofs.TimedLemmas.{answers_after, begun, ended_as}
use Rattle.command_listings.specs.TimedLogs.{IsTimed, first_listing}
use Rattle.command_listings.proofs.history_annotations.annotate_timed.Goals as goal

pub returns : goal.returns
returns g c =
    let a = c.args in
    let rule = a.request.job.now.rule in
    let parts = a.history.now in
    let first = c.in_ok-first.first in
    let remaining = g.L.Read.remaining in
    let contents = g.W.Write.contents in
    let kernel = option_copied c.as_ref.result in
    let made = c.new-answers in
    let timed = c.in_ok-timed in
    let end = c.timed_end-end.result in
    let reader = c.name_to_end-named.new.reader in
    let writer = c.name_to_end-named.new.writer in
    let listing_is : first.text ≡ first_listing parts = c.in_ok-first.ensures.of.1
    ∙ ap (λ (k : ℕ). listing_after k parts) c.in_ok-first.ensures.first in
    let narrow_is = made.ensures.narrow ∙ c.is_narrow.ensures
    ∙ ap (λ (t : List ℕ). is_narrow (lines_of t)) (c.text.ensures ∙ listing_is) in
    let are = answers_after kernel rule parts first c.in_ok-index.index made.result.index
    c.in_ok-index.notes made.result.rule made.result.is_narrow c.text-3.result.now
    c.in_ok-first.ensures.of c.text-3.ensures c.in_ok-index.ensures made.ensures.index
    made.ensures.rule narrow_is in
    let nothing = begun kernel rule parts remaining contents a.log.now a.outputs.now.writer
    timed.timed timed.ensures.context timed.ensures.open timed.ensures.times timed.ensures.left
    timed.ensures.on timed.ensures.head in
    let turned =
    c.name_by-asked.ensures.turn kernel rule are a.log.now a.outputs.now.writer 0 nothing in
    let named = c.name_to_end-named.ensures a.log.now a.outputs.now.writer (0 + 1) turned in
    let is_timed : IsTimed kernel rule parts remaining contents a.log.now a.outputs.now.writer end
    reader writer = ended_as kernel rule parts remaining contents a.log.now a.outputs.now.writer
    c.name_to_end-named.new.log c.name_to_end-named.result end reader writer
    c.timed_end-end.ensures named in
    let kernel_is = c.listed_kernel-kernel.ensures
    ∙ ap (λ (t : List ℕ). listed_kernel t rule.offset) (c.text-2.ensures ∙ listing_is) in
    inr (record {
      catalog = c.in_ok-index.index;
      notes = c.in_ok-index.notes;
      noted = c.note_listings.new.writer;
      end = end;
      said = rw (c.text-3.ensures ∙ listing_is, c.as_ref.ensures.value) at c.in_ok-index.ensures;
      told = c.note_listings.ensures;
      timed = rw c.as_ref.ensures.value at is_timed;
      end_told = rw kernel_is at c.conclude_timed_log.ensures;
    })
