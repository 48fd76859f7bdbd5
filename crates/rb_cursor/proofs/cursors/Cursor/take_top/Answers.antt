use Rattle.rb_cursor.proofs.Words.{◌+◌, ◌-◌, arith, top_taken}
use Rattle.rb_cursor.proofs.FieldLemmas.{Moved, top_present}
use Rattle.rb_cursor.proofs.BlankLemmas.{thin_leads, room_fits, takes}
use Rattle.rb_cursor.proofs.cursors.Cursor.take_top.Goals as goal

pub overflow_sub-link : goal.overflow_sub-link
overflow_sub-link c =
    thin_leads c.self.inside c.args.self.now c.self.invariant c.self.view_is c.requires

pub index_mut-node-requires : goal.index_mut-node-requires
index_mut-node-requires c =
    let some = thin_leads c.self.inside c.args.self.now c.self.invariant c.self.view_is
    c.requires in
    top_present c.self.inside (c.self.inside.tree - 1) c.self.invariant (omega arith)

pub overflow_add-self : goal.overflow_add-self
overflow_add-self c =
    omega (
      arith,
      room_fits c.self.inside c.args.self.now c.self.invariant c.self.view_is
          (thin_leads c.self.inside c.args.self.now c.self.invariant c.self.view_is c.requires),
    )

there : (c : goal.After-lead) →
    Moved (record c.self.inside {
      nodes = c.lead.new.nodes;
      tree = c.only_link-subtree.result;
      blank = c.self.inside.tree;
      room = c.self.inside.room + 1;
    }) (top_taken c.args.self.now)
there c =
    let some = thin_leads c.self.inside c.args.self.now c.self.invariant c.self.view_is
    c.requires in
    takes c.self.inside c.lead.new.nodes c.args.self.now (c.self.inside.tree - 1)
    c.only_link-subtree.result c.index_mut-node.result.now c.self.invariant c.self.view_is
    c.requires (omega arith) c.index_mut-node.ensures.value c.only_link-subtree.ensures
    c.lead.ensures

pub invariant_of-self : goal.invariant_of-self
invariant_of-self c = (there c).is

pub returns : goal.returns
returns c = (there c).shows
