use Rattle.rb_cursor.proofs.Words.{◌∙◌}
use Rattle.facts.proofs.Tests.{list_any-binary_search}
use Rattle.rb_cursor.proofs.searches.is_left_out.Goals as goal

pub returns-then-rising : goal.returns-then-rising
returns-then-rising c =
    c.is_ok.ensures.value
    ∙ list_any-binary_search c.args.but.now c.args.a c.binary_search.result
    c.binary_search.ensures.position (c.requires c.if-rising.true)
