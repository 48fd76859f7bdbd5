use Rattle.modules.proofs.Words.{◌≡◌, sym, subst, true, All, bytes_eq, All-filter}
use Rattle.modules.proofs.Definitions.{region_fits, ListedRegion}
use Rattle.modules.proofs.ByNameLemmas.{all_at}
use Rattle.modules.proofs.placing.RegionLines.place.Goals as goal

pub in_lines-requires : goal.in_lines-requires
in_lines-requires c =
    all_at (λ (l : ListedRegion). region_fits l ≡ true) c.named-lines.result.now
    (subst (All (λ (l : ListedRegion). region_fits l ≡ true)) (sym c.named-lines.ensures)
    (All-filter (λ (r : ListedRegion). bytes_eq r.name c.line.inside.name.now)
    (λ (l : ListedRegion). region_fits l ≡ true) c.args.self.now c.requires.region_fits))
