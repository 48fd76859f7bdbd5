use Rattle.logs.proofs.Definitions.{◌∙◌, ◌++◌, ℕ, List, refl, sym, ap, eqb-true}
use Rattle.std.proofs.lemmas.List.{nil_from_length}
use Rattle.logs.proofs.LineLemmas.{long_ends, short_ends}
use Rattle.logs.proofs.annotator.Annotator.pass_line.Goals as goal

pub returns-then-self : goal.returns-then-self
returns-then-self g c =
    long_ends (g.A.Answers.answering c.args.answers.now) c.args.self.now _ c.args.line.now
    c.args.out.now.items _ c.if-self.true c.requires.line refl refl refl
    c.in_ok-extend_from_slice.ensures.items

pub returns-then-is_empty : goal.returns-then-is_empty
returns-then-is_empty g c =
    let none = nil_from_length c.args.self.now.begun.items (sym c.args.self.now.begun.ok.0
    ∙ eqb-true _ 0 (sym c.is_empty.ensures ∙ c.if-is_empty.true)) in
    short_ends (g.A.Answers.answering c.args.answers.now) c.args.self.now _ c.args.line.now
    c.args.line.now c.args.out.now.items _ c.if-self.false c.requires.line
    (ap (λ (l : List ℕ). l ++ c.args.line.now) (sym none)) c.in_ok-put_line.ensures.context
    c.if-self.false none
    c.in_ok-put_line.ensures.text

pub returns : goal.returns
returns g c =
    let whole = c.deref.ensures.value ∙ c.in_ok-extend_from_slice-2.ensures.items in
    short_ends (g.A.Answers.answering c.args.answers.now) c.args.self.now _ c.args.line.now
    c.deref.result.now c.args.out.now.items _ c.if-self.false c.requires.line whole
    c.in_ok-put_line-2.ensures.context c.if-self.false c.clear.ensures.items
    c.in_ok-put_line-2.ensures.text
