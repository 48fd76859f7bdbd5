use Rattle.latch_steps.proofs.Definitions.{refl, ap, WriterView, capacity_of, sound_opening}
use Rattle.latch_steps.proofs.Definitions.{opening}
use Rattle.latch_steps.proofs.WorldLemmas.{none_in_hand}
use Rattle.latch_steps.proofs.worlds.World.open.Goals as goal

pub returns-clause-shows : goal.returns-clause-shows
returns-clause-shows g c =
    let ok = c.in_ok-writer.ensures in
    record {
      capacity = ap (λ (v : WriterView). v.capacity) ok.opened;
      limit = ap (λ (v : WriterView). v.limit) ok.opened;
      words = c.in_ok-words.ensures;
      writer = ok.pictures;
      lookups =
          none_in_hand g.O.TreeOrder.order (capacity_of c.args.l) c.new.result c.new.ensures.empty;
      events = refl;
    }

pub returns-clause-after : goal.returns-clause-after
returns-clause-after g c =
    record {
      moment = opening (capacity_of c.args.l) c.args.start;
      shows = returns-clause-shows g c;
      sound = sound_opening g.O.TreeOrder.order (capacity_of c.args.l) c.args.start
          c.in_ok-writer.ensures.may.0;
    }
