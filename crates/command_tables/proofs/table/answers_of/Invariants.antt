use Rattle.command_tables.proofs.Words.{◌≡◌, map, take, items_of, answer_at, HasTable}
use Rattle.command_tables.proofs.table.answers_of.Given as goal

abbrev pub invariant-loop-addr : goal.invariant-loop-addr
invariant-loop-addr l = record {
  holds : HasTable (items_of l.catalog) l.world;
  answers : l.answers.items ≡ map (answer_at l.catalog l.rule) (take l.addr-index l.addresses);
}
