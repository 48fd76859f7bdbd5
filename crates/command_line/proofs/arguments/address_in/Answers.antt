use Rattle.command_line.proofs.Words.{◌∙◌, ap, refl, codes, map}
use Rattle.command_parts.proofs.FaultLemmas.{is_handed}
use Rattle.command_line.proofs.arguments.address_in.Goals as goal

pub returns-in_err-higher : goal.returns-in_err-higher
returns-in_err-higher c =
    rw (is_handed c.from_residual.result c.from_residual.ensures.1)
    (c.in_err-higher.ensures (codes "address") refl)

pub returns : goal.returns
returns c = record {
  names = ap (map (λ w. w.now)) c.in-Ok.ensures.items ∙ c.values_of.ensures;
  json = c.is_given-json.ensures;
  higher = c.in_ok-higher.ensures (codes "address") refl;
}
