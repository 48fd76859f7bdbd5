use Rattle.recordings.proofs.Words.{◌∙◌, ◌++◌, List, ℕ, ap, sym, append_assoc}
use Rattle.recordings.proofs.LineLemmas.{one_more_whole}
use Rattle.recordings.proofs.event_lines.whole_length.Goals as goal

pub loop-more-preserved : goal.loop-more-preserved
loop-more-preserved c =
    let (front, parts, whole) = c.loop-more.invariant in
    let line = c.in-Some.field-0-0.now in (
      front ++ line,
      parts ∙ ap (λ (l : List ℕ). front ++ l) c.in-Some.ensures.parts
          ∙ sym (append_assoc front line c.in-Some.more.now),
      one_more_whole front line whole c.in-Some.ensures.line,
    )
