use Rattle.logs.proofs.Definitions.{◌∙◌, ◌++◌, ◌||◌, ◌∷◌, Bool, subst, SameAddresses, words_behind}
use Rattle.logs.proofs.Definitions.{ℕ, List, ap, sym, or-false, take_rest, list_any, counted}
use Rattle.logs.proofs.Definitions.{annotated_from, AddressWord}
use Rattle.logs.proofs.line.put_words.Goals as goal

pub loop-word-preserved : goal.loop-word-preserved
loop-word-preserved g c =
    let answer = g.A.Answers.answering c.args.answers.now in
    let line = c.args.line.now in
    let p = c.loop-word.progress in
    let same = subst (λ (n : Bool). SameAddresses n line (words_behind line p.at)
    (c.in-Some.word ∷ words_behind line c.in-Some.word.end)) c.is_narrow.ensures
    c.in-Some.ensures.words c.args.context p.last in
    let put = c.in_ok-put_word-in-Some.ensures in
    record {
      text = put.text ∙ ap (λ (ts : List AddressWord). c.loop-word.out.items
          ++ annotated_from answer line p.put ts) (sym same) ∙ c.loop-word.invariant.text;
      frame = put.frame
          ∙ ap (λ (ts : List AddressWord). p.has_frame || list_any (λ t. t.is_frame) ts) (sym same)
          ∙ c.loop-word.invariant.frame;
      names = put.names ∙ ap (λ (ts : List AddressWord). counted answer line p.names ts) (sym same)
          ∙ c.loop-word.invariant.names;
      within = put.within;
      put = put.put;
    }

pub returns-in-None : goal.returns-in-None
returns-in-None g c =
    let left = (rw c.is_narrow.ensures at c.in-None.ensures.words) c.args.context
    c.loop-word.progress.last in
    let on = c.loop-word.invariant in
    record {
      text = c.in_ok-extend_from_slice-in-None.ensures.items
          ∙ ap (λ (l : List ℕ). c.loop-word.out.items ++ l)
          (take_rest c.args.line.now c.loop-word.progress.put) ∙ (rw left at on.text);
      frame = sym (or-false _) ∙ (rw left at on.frame);
      names = rw left at on.names;
    }
