use Rattle.texts.proofs.Words.{sym, ap, ◌∙◌, ◌++◌, take, arith, subst, length, take_rest}
use Rattle.texts.proofs.Words.{length-drop, take-add, Appends-trans, Appends}
use Rattle.texts.proofs.output.write_all.Goals as goal

pub loop-taken-preserved : goal.loop-taken-preserved
loop-taken-preserved g c =
    let bytes = c.args.bytes.now in
    let at = c.loop-taken.taken in
    let more = c.in-Ok.more in
    let rest = take_rest bytes at in
    record {
      within = omega (
        arith,
        c.in-Ok.ensures.bound,
        ap length rest ∙ length-drop at bytes,
        c.loop-taken.invariant.within,
      );
      sound = grind (arith, c.in-Ok.ensures.failed, c.if-more-gt0.true);
      error = c.in-Ok.ensures.error ∙ c.loop-taken.invariant.error;
      took = subst (Appends _ _)
          (ap (λ l. take at bytes ++ take more l) rest ∙ sym (take-add at more bytes))
          (Appends-trans _ _ _ _ _ c.loop-taken.invariant.took c.in-Ok.ensures.taken);
    }
