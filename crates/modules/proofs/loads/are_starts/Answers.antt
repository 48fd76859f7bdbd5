use Rattle.modules.proofs.Words.{ℕ, suc, List, get_or, take, drop, sym, ap, ◌∙◌, arith, bytes_eq}
use Rattle.modules.proofs.Words.{common_steps}
use Rattle.modules.proofs.Lemmas.{get_or_default, take_push}
use Rattle.modules.proofs.Definitions.{starts_of, Core}
use Rattle.modules.proofs.LoadLemmas.{all_words, other_more, other_words, starts_split, wanted_more}
use Rattle.modules.proofs.loads.are_starts.Goals as goal
use Rattle.modules.proofs.loads.are_starts.Goals.{then-count-words-via-then-count-words}
use Rattle.modules.proofs.loads.are_starts.Goals.{then-count-words-via-else-count-words+then-words-count}

pub returns-then-count-words : goal.returns-then-count-words
returns-then-count-words c =
    let words = c.args.words.now in
    let regions = c.args.regions.now in
    let parts = c.args.parts.now in
    let place = c.loop-place.place in
    let count = c.loop-place.count in
    let i = c.loop-place.invariant in
    let start : ℕ = (get_or regions place (0, 0)).0 in
    let more : List ℕ =
    starts_of c.args.core c.args.init (drop (suc place) regions) (drop (suc place) parts) in
    let split = starts_split c.args.core c.args.init regions parts place (0, 0) Core
    (omega (arith, c.requires)) (omega arith) (sym c.is_of.ensures ∙ c.if-is_of.true) in
    sym (ap (λ (s : List ℕ). bytes_eq s words) split
    ∙ other_words words (starts_of c.args.core c.args.init (take place regions) (take place parts))
    more start count i.begins i.bounded
    (elim c.then-count-words.branch [
      | then-count-words-via-then-count-words w ↦ λ lt d e.
          (let all = w.if-count-words.true in omega arith)
      | then-count-words-via-else-count-words+then-words-count w ↦ λ lt d e.
          w.if-words-count.true (get_or_default words count 0 d lt ∙ e ∙ sym
          (w.start.ensures ∙ ap (λ (x : ℕ × ℕ). x.0) (w.index-regions-place.is ∙ get_or_default
          regions place w.index-regions-place.result (0, 0) (omega (arith, c.requires)))))
    ]))

pub loop-place-preserved : goal.loop-place-preserved
loop-place-preserved c =
    grind (arith, common_steps, wanted_more, take_push, get_or_default, other_more)

pub returns : goal.returns
returns c = grind (arith, common_steps, all_words)
