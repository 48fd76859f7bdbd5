use Rattle.follower.proofs.Words.{◌≡◌, ◌-◌, ◌<◌, Some, subst, sym, arith, ap, ◌∙◌, get_or}
use Rattle.follower.proofs.Words.{DatedCatalog, number_of, start_by, IsSplitBy}
use Rattle.follower.proofs.CatalogLemmas.{none_stands, stands_last}
use Rattle.follower.proofs.catalogs.Catalogs.of.Goals as goal

pub returns-in-0 : goal.returns-in-0
returns-in-0 c =
    sym (none_stands c.args.self.now.items c.args.moment (subst (IsSplitBy (start_by c.args.moment)
    c.args.self.now.items (number_of c.args.moment)) c.in-0.is c.begun_by.ensures))

pub returns-in_default : goal.returns-in_default
returns-in_default c =
    let d : DatedCatalog = c.index.result.now in
    let some : 0 < c.begun_by.result = grind (arith) in
    ap (λ x. Some x)
    (subst (λ v. d ≡ get_or v.items (c.begun_by.result - 1) d) c.self.view_is c.index.ensures)
    ∙ sym (stands_last c.args.self.now.items c.args.moment c.begun_by.result c.begun_by.ensures d
    some)
