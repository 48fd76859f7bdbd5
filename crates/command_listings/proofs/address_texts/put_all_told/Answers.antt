use Rattle.command_listings.proofs.Words.{rules, arith, piece_said, is_told, told_line, line_where}
use Rattle.command_listings.proofs.address_texts.put_all_told.Goals as goal

pub loop-symbol-preserved : goal.loop-symbol-preserved
loop-symbol-preserved g c =
    let it = c.args.it.now in
    piece_said
    (λ k. line_where (is_told it.form it.asked k) (told_line it.form it.word.now it.asked k)) _
    _ _ (omega arith) (search rules) c.loop-symbol.invariant c.put_if_told.ensures
