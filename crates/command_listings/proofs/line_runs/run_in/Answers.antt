use Rattle.command_listings.proofs.Words.{◌∙◌, ◌++◌, List, ℕ, ap, append_assoc, sym}
use Rattle.command_listings.proofs.RunLemmas.{nothing_run, opened_run, two_before, unended_run}
use Rattle.command_listings.proofs.line_runs.run_in.Goals as goal

pub returns-in_default-clause-run : goal.returns-in_default-clause-run
returns-in_default-clause-run c =
    let a = c.args in
    rw (c.all_named.ensures.times, c.all_named.ensures.named) (unended_run a.history.now a.is_narrow
    a.listing.now.count a.annotator.now a.times a.block.now c.in_default.ensures.none)

pub returns-in_ok-later-in-Ok-clause-parts : goal.returns-in_ok-later-in-Ok-clause-parts
returns-in_ok-later-in-Ok-clause-parts c =
    let line = c.in-Some.line.now in
    let later = c.in_ok-later-in-Ok.later in
    let parts = c.in_ok-later-in-Ok.ensures.parts in
    c.in-Some.ensures.parts ∙ ap (λ (b : List ℕ). line ++ b) parts
    ∙ sym (append_assoc line later.named.now later.left.now)
    ∙ ap (λ (b : List ℕ). b ++ later.left.now) (sym (two_before c.args.block.now line
    c.in-Some.more.now later.named.now later.left.now c.in-Some.ensures.parts parts))

pub returns-in_ok-later-in-Ok-clause-run : goal.returns-in_ok-later-in-Ok-clause-run
returns-in_ok-later-in-Ok-clause-run c =
    let a = c.args in
    let line = c.in-Some.line.now in
    let later = c.in_ok-later-in-Ok.later in
    rw (two_before a.block.now line c.in-Some.more.now later.named.now later.left.now
    c.in-Some.ensures.parts c.in_ok-later-in-Ok.ensures.parts) (opened_run a.history.now a.is_narrow
    a.listing.now.count a.annotator.now a.times c.in-Ok.next
    later.times line later.named.now c.in-Some.ensures.line
    (λ begun is_open. c.in-Ok.ensures (begun ++ line) (c.in_ok-whole.ensures begun is_open))
    c.in_ok-later-in-Ok.ensures.run)

pub returns-in-Err-clause-run : goal.returns-in-Err-clause-run
returns-in-Err-clause-run c =
    let a = c.args in
    nothing_run a.history.now a.is_narrow a.listing.now.count a.annotator.now a.times
