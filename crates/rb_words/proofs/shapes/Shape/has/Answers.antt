use Rattle.rb_words.proofs.Words.{found_by_word, any_has, arith, common_steps}
use Rattle.rb_words.proofs.shapes.Shape.has.Goals as goal

pub returns-then-in_line : goal.returns-then-in_line
returns-then-in_line g c = grind (arith, common_steps, found_by_word)

pub returns-else-in_line : goal.returns-else-in_line
returns-else-in_line g c = grind (arith, common_steps, any_has)
