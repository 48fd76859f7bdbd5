use Rattle.command_listings.proofs.Words.{◌∙◌, ◌++◌, List, [], ℕ, ap, append_assoc, sym}
use Rattle.command_listings.proofs.RunLemmas.{before_rest, goes_no_further, goes_on, goes_to_rest}
use Rattle.command_listings.proofs.line_runs.later_lines.Goals as goal

pub returns-in-Err-clause-run : goal.returns-in-Err-clause-run
returns-in-Err-clause-run c =
    let (done, is, goes) = c.loop-line.invariant in
    rw (before_rest c.args.bytes.now done c.loop-line.rest.now is)
    (goes_no_further c.args.history.now c.args.is_narrow c.args.listing.now.count c.args.times
    c.loop-line.times done goes)

pub loop-line-preserved : goal.loop-line-preserved
loop-line-preserved c =
    let (done, is, goes) = c.loop-line.invariant in
    let line = c.in-Some.line.now in
    let (may, same) =
    c.in-Ok.ensures line (c.in_ok-whole.ensures [] c.new-nothing_open.ensures.open) in (
      done ++ line,
      is ∙ ap (λ (r : List ℕ). done ++ r) c.in-Some.ensures.parts
          ∙ sym (append_assoc done line c.in-Some.more.now),
      goes_on c.args.history.now c.args.is_narrow c.args.listing.now.count c.args.times
          c.loop-line.times c.in-Ok.next done line c.in-Some.ensures.line may same goes,
    )

pub returns-clause-run : goal.returns-clause-run
returns-clause-run c =
    let (done, is, goes) = c.loop-line.invariant in
    rw (c.all_named.ensures.times, c.all_named.ensures.named, is)
    (goes_to_rest c.args.history.now c.args.is_narrow c.args.listing.now.count c.args.times
    c.loop-line.times done c.loop-line.rest.now c.in_default.ensures.none goes)
