use Rattle.modules.proofs.Words.{rules}
use Rattle.modules.proofs.Lemmas.{always_returns_same, nat_list_cmp_total, ranks_by}
use Rattle.modules.proofs.Definitions.{comes_first}
use Rattle.modules.proofs.ByNameLemmas.{stays_in_order}
use Rattle.modules.proofs.by_name.sort_by_name.Goals as goal

pub returns : goal.returns
returns g c =
    let name = g.T.Named.name_of in
    let ranks = ranks_by nat_list_cmp_total name in
    record {
      rises = c.in_ok-sort_by.ensures.sorted (comes_first name) ranks
          (always_returns_same _ _ _ (λ a r q called. search rules));
      each = stays_in_order name c.args.index.now.items c.sort_by.new.self.items
          (c.in_ok-sort_by.ensures.stable (comes_first name) ranks
          (always_returns_same _ _ _ (λ a r q called. search rules)));
    }
