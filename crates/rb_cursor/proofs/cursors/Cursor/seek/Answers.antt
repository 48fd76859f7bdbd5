use Rattle.rb_cursor.proofs.Words.{◌≡◌, ◌-◌, List, sym, ap, ◌∙◌, arith, ColouredTree, Above}
use Rattle.rb_cursor.proofs.Words.{side_by, record_of, Equal-from_is_eq}
use Rattle.rb_cursor.proofs.FieldLemmas.{show, with_step, written_back}
use Rattle.rb_cursor.proofs.SeekLemmas.{Went, step_fits, seen_way, seen_goes, seen_ends}
use Rattle.rb_cursor.proofs.SeekLemmas.{seen_misses}
use Rattle.rb_cursor.proofs.cursors.Cursor.seek.Goals as goal
use Rattle.rb_cursor.proofs.cursors.Cursor.seek.Given.{Over}

pub set_step-requires : goal.set_step-requires
set_step-requires g c =
    step_fits c.loop-link.invariant c.index_mut-node.ensures.value
    (omega (arith, c.loop-link-test.true))

-- a step down
went : (g : Over) (c : goal.After-self-in-loop-link-1 g) →
    let i = record c.loop-link.self-inside { tree = c.loop-link.link; depth = c.loop-link.depth } in
    Went (g.P.Probe.seen c.args.sought.now) i
    (record (with_step (written_back i (c.loop-link.link - 1) c.index_mut-node.result.now)
    c.side_by-side.result c.child-link.result) { steps = c.set_step.new.steps }) c.args.self.now
went g c =
    let other = sym (c.is_at.ensures c.index_mut-node.result.now.node) ∙ c.if-is_at.false in
    seen_goes c.loop-link.invariant c.index_mut-node.ensures.value
    (omega (arith, c.loop-link-test.true))
    c.side_by-side.result c.child-link.result c.set_step.new.steps other
    (c.side_by-side.ensures
    ∙ ap side_by (c.is_before.ensures c.index_mut-node.result.now.node other))
    c.child-link.ensures c.set_step.ensures

pub loop-link-smaller : goal.loop-link-smaller
loop-link-smaller g c = (went g c).less

pub loop-link-preserved : goal.loop-link-preserved
loop-link-preserved g c = (went g c).sought

-- the place and the path up from there, where it is found and where it is not
found : (g : Over) (c : goal.After-self-then-is_at-2-1 g) →
    let i = written_back
    (record c.loop-link.self-inside { tree = c.loop-link.link; depth = c.loop-link.depth })
    (c.loop-link.link - 1) c.index_mut-node.result.now in
    ((show i).tree, (show i).path)
    ≡ seen_way (g.P.Probe.seen c.args.sought.now) c.args.self.now.tree c.args.self.now.path
found g c =
    seen_ends c.loop-link.invariant c.index_mut-node.ensures.value
    (omega (arith, c.loop-link-test.true))
    (Equal-from_is_eq (g.P.Probe.seen c.args.sought.now (record_of c.index_mut-node.result.now))
    (sym (c.is_at.ensures c.index_mut-node.result.now.node) ∙ c.if-is_at.true))

pub returns-then-is_at-clause-tree : goal.returns-then-is_at-clause-tree
returns-then-is_at-clause-tree g c = ap (λ (z : ColouredTree × List Above). z.0) (found g c)

pub returns-then-is_at-clause-path : goal.returns-then-is_at-clause-path
returns-then-is_at-clause-path g c = ap (λ (z : ColouredTree × List Above). z.1) (found g c)

pub returns-clause-tree : goal.returns-clause-tree
returns-clause-tree g c =
    ap (λ (z : ColouredTree × List Above). z.0)
    (seen_misses c.loop-link.invariant c.loop-link-test.false)

pub returns-clause-path : goal.returns-clause-path
returns-clause-path g c =
    ap (λ (z : ColouredTree × List Above). z.1)
    (seen_misses c.loop-link.invariant c.loop-link-test.false)
