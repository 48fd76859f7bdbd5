use Rattle.logs.proofs.Definitions.{◌∙◌, ◌++◌, ℕ, List, refl, ap, arith}
use Rattle.logs.proofs.LineLemmas.{gets_long, context_stays, long_goes_on}
use Rattle.logs.proofs.annotator.Annotator.hold.Goals as goal

pub returns-then-self : goal.returns-then-self
returns-then-self c = λ answer.
    long_goes_on answer c.args.self.now c.args.bytes.now c.args.out.now.items _ c.if-self.true
    c.requires c.in_ok-extend_from_slice.ensures.items

pub returns-in_ok-extend_from_slice-3 : goal.returns-in_ok-extend_from_slice-3
returns-in_ok-extend_from_slice-3 c = λ answer.
    gets_long answer c.args.self.now _ c.args.bytes.now c.extend_from_slice-2.new.self.items
    c.args.out.now.items _ c.if-self.false c.requires c.in_ok-extend_from_slice-2.ensures.items
    (omega (arith, c.len.ensures)) refl refl c.clear.ensures.items
    (c.in_ok-extend_from_slice-3.ensures.items
    ∙ ap (λ (l : List ℕ). c.args.out.now.items ++ l) c.deref.ensures.value)

pub returns-else-len-gt-LONGEST : goal.returns-else-len-gt-LONGEST
returns-else-len-gt-LONGEST c = λ answer.
    context_stays answer c.args.self.now _ c.args.bytes.now c.args.out.now.items c.if-self.false
    c.requires refl c.if-self.false c.in_ok-extend_from_slice-2.ensures.items
    (omega (arith, c.len.ensures))
