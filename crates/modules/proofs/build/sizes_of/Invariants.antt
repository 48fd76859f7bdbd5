use Rattle.modules.proofs.Words.{◌≡◌, ◌+◌, length, take, sum_by}
use Rattle.modules.proofs.build.sizes_of.Given as goal

abbrev pub invariant-loop-module : goal.invariant-loop-module
invariant-loop-module l = record {
  regions : l.regions ≡ sum_by (λ m. length m.regions) (take l.module-index l.modules);
  symbols : l.symbols
      ≡ l.of_kernel + sum_by (λ m. length m.symbols) (take l.module-index l.modules);
}
