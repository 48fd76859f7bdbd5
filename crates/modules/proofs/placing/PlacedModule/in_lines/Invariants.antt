use Rattle.modules.proofs.Words.{◌≡◌, map, take}
use Rattle.modules.proofs.Definitions.{lines_at, region_line_region}
use Rattle.modules.proofs.placing.PlacedModule.in_lines.Given as goal

abbrev pub invariant-loop-line : goal.invariant-loop-line
invariant-loop-line l =
    record {
      regions : l.regions.items ≡ map region_line_region (lines_at (take l.line-index l.lines));
      parts : l.parts.items ≡ map (λ r. r.part) (lines_at (take l.line-index l.lines));
    }
