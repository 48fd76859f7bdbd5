use Rattle.rb_cursor.proofs.Words.{refl}
use Rattle.rb_cursor.proofs.FieldLemmas.{first}
use Rattle.rb_cursor.proofs.cursors.Cursor.new.Goals as goal

pub invariant_of-result : goal.invariant_of-result
invariant_of-result c = (first _ c.new.ensures.empty refl refl refl refl).is

pub returns : goal.returns
returns c = (first _ c.new.ensures.empty refl refl refl refl).shows
