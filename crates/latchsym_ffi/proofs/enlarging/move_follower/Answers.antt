use Rattle.latchsym_ffi.proofs.Words.{inr, IfErr-weaker, IfOk-weaker}
use Rattle.latchsym_ffi.proofs.enlarging.move_follower.Goals as goal

pub returns-clause-moved : goal.returns-clause-moved
returns-clause-moved c =
    IfOk-weaker c.move_to.result _ _
    (λ all e. record {
      layout = c.in_ok-layout.layout;
      wide = (c.in_ok-layout.ensures.capacity, c.in_ok-layout.ensures.limit);
      enlarges = e;
    })
    c.move_to.ensures.enlarged

pub returns-clause-refused : goal.returns-clause-refused
returns-clause-refused c =
    IfErr-weaker c.move_to.result _ _
    (λ e r. inr
    (c.in_ok-layout.layout, (c.in_ok-layout.ensures.capacity, c.in_ok-layout.ensures.limit), r))
    c.move_to.ensures.refusal
