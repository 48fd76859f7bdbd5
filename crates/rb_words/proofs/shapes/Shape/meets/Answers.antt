use Rattle.rb_words.proofs.Words.{met_meets, met_any_meets, arith, common_steps}
use Rattle.rb_words.proofs.shapes.Shape.meets.Goals as goal

pub returns-then-valid : goal.returns-then-valid
returns-then-valid g c = grind (arith, common_steps, met_meets)

pub returns-else-in_line : goal.returns-else-in_line
returns-else-in_line g c = grind (arith, common_steps, met_any_meets)
