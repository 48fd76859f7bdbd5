use Rattle.rb_cursor.proofs.Words.{◌-◌, arith, planted, IsSome-from_ne}
use Rattle.rb_cursor.proofs.FieldLemmas.{Moved, room_is}
use Rattle.rb_cursor.proofs.BlankLemmas.{blank_leads, blank_there, plants}
use Rattle.rb_cursor.proofs.cursors.Cursor.plant.Goals as goal

pub overflow_sub-link : goal.overflow_sub-link
overflow_sub-link c =
    blank_leads c.self.inside c.args.self.now c.self.invariant c.self.view_is c.requires.room

pub index_mut-node-requires : goal.index_mut-node-requires
index_mut-node-requires c =
    let some = blank_leads c.self.inside c.args.self.now c.self.invariant c.self.view_is
    c.requires.room in
    IsSome-from_ne (λ none. blank_there c.self.inside (c.self.inside.blank - 1) c.self.invariant
    (omega arith) none)

pub overflow_sub-self : goal.overflow_sub-self
overflow_sub-self c =
    omega (arith, room_is c.self.inside c.args.self.now c.self.invariant c.self.view_is)

there : (c : goal.After-lead) →
    Moved (record c.self.inside {
      nodes = c.lead.new.nodes;
      tree = c.self.inside.blank;
      blank = c.index_mut-node.result.now.left;
      room = c.self.inside.room - 1;
    }) (planted c.args.row c.args.self.now)
there c =
    let some = blank_leads c.self.inside c.args.self.now c.self.invariant c.self.view_is
    c.requires.room in
    plants c.self.inside c.lead.new.nodes c.args.self.now (c.self.inside.blank - 1) c.args.row
    c.index_mut-node.result.now c.self.invariant c.self.view_is c.requires.leaf (omega arith)
    c.index_mut-node.ensures.value c.lead.ensures

pub invariant_of-self : goal.invariant_of-self
invariant_of-self c = (there c).is

pub returns : goal.returns
returns c = (there c).shows
