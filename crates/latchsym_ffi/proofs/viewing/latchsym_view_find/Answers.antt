use Rattle.latchsym_ffi.proofs.Words.{◌∙◌, ap, subst, known_code, known_at, IsNamed}
use Rattle.latchsym_ffi.proofs.ViewLemmas.{row_of_seen, same_code, told_without}
use Rattle.latchsym_ffi.proofs.viewing.latchsym_view_find.Goals as goal

pub returns : goal.returns
returns c = λ entries is. record {
  code = c.tell.ensures.code ∙ ap known_code (c.seek.ensures.known entries is)
      ∙ same_code (known_at entries c.args.addr);
  symbol = told_without entries (known_at entries c.args.addr) c.tell.new.out
      (subst (λ k. IsNamed entries k c.tell.new.out) (c.seek.ensures.known entries is)
      (c.tell.ensures.symbol entries (row_of_seen entries c.args.view.now.regions.now is.each
      c.seek.result c.seek.ensures.listed)));
}
