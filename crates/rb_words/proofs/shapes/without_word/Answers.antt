use Rattle.rb_words.proofs.Words.{◌∙◌, refl, sym, ap, is_some, item_with_word, word_found}
use Rattle.rb_words.proofs.Words.{item_found, any_is, found_by_word, found_by_any, any_has, arith}
use Rattle.rb_words.proofs.Words.{common_steps}
use Rattle.rb_words.proofs.shapes.without_word.Goals as goal

pub returns-in_err-row-clause-found : goal.returns-in_err-row-clause-found
returns-in_err-row-clause-found g c = grind (arith, common_steps, found_by_word)

pub returns-then-in_line-clause-found : goal.returns-then-in_line-clause-found
returns-then-in_line-clause-found g c = grind (arith, common_steps, found_by_word)

pub returns-then-in_line-clause-gone : goal.returns-then-in_line-clause-gone
returns-then-in_line-clause-gone g c =
    record {
      row = c.in_ok-row.row;
      taken = c.in_ok-row.ensures.rows;
      word = word_found c.args.a c.args.cursor.now.tree c.in_ok-row.row c.in_ok-row.ensures.row;
      number = refl;
    }

pub returns-in_err-item-clause-found : goal.returns-in_err-item-clause-found
returns-in_err-item-clause-found g c =
    ap is_some c.from_residual-in_err-item.ensures
    ∙ ap is_some (c.in_err-item.ensures ∙ ap (item_with_word c.args.a) c.tree.ensures)
    ∙ any_has c.args.a c.args.cursor.now.tree

pub returns-in_err-row-2-clause-found : goal.returns-in_err-row-2-clause-found
returns-in_err-row-2-clause-found g c = grind (arith, common_steps, found_by_any)

pub returns-clause-found : goal.returns-clause-found
returns-clause-found g c =
    let with_word = sym (ap (item_with_word c.args.a) c.tree.ensures) ∙ sym c.in_ok-item.ensures in
    sym (sym (any_has c.args.a c.args.cursor.now.tree) ∙ ap is_some with_word)

pub returns-clause-gone : goal.returns-clause-gone
returns-clause-gone g c =
    let t = c.args.cursor.now.tree in
    let item = c.in_ok-item.item in
    let with_word = sym (ap (item_with_word c.args.a) c.tree.ensures) ∙ sym c.in_ok-item.ensures in
    record {
      row = c.in_ok-row-2.row;
      taken = c.in_ok-row-2.ensures.rows;
      word = item_found g.O.TreeOrder.order.less item t c.in_ok-row-2.row c.in_ok-row-2.ensures.row
          ∙ (any_is c.args.a t item with_word).1;
      number = refl;
    }
