use Rattle.rb_words.proofs.Words.{◌≤◌, sym, subst, capacity_of, copy_number, Picture, picture_of}
use Rattle.rb_words.proofs.Words.{arith, common_steps}
use Rattle.rb_words.proofs.WiderLemmas.{pictured_wider}
use Rattle.rb_words.proofs.shapes.Shape.widen.Goals as goal
use Rattle.rb_words.proofs.shapes.Shape.widen.Given.{Over}

-- the picture as it was
abbrev before : (g : Over) → goal.After-l-1 g → Picture
before g c =
    let s = c.self.inside in
    picture_of (capacity_of s.layout) (copy_number s.copy) s.cursor.tree s.cursor.room

more : (g : Over) (c : goal.After-l-1 g) → capacity_of c.self.inside.layout ≤ capacity_of c.args.l
more g c =
    subst (λ (q : Picture). q.capacity ≤ capacity_of c.args.l) (sym c.self.view_is) c.requires

pub returns-clause-pictures : goal.returns-clause-pictures
returns-clause-pictures g c = grind (arith, common_steps, pictured_wider, more)
