use Rattle.listing.proofs.Words.{◌≡◌, List, refl, sym, subst, arith, All, fits, ListedModule}
use Rattle.listing.proofs.Words.{module_causes, module_place, module_of_line}
use Rattle.std.specs.Prelude.{true}
use Rattle.listing.proofs.SkippingLemmas.{IsReadTo, counts_low, one_skipped, one_taken}
use Rattle.listing.proofs.ModuleLineLemmas.{modules_fit}
use Rattle.listing.proofs.module_listing.read_modules.Goals as goal

pub add-requires : goal.add-requires
add-requires c =
    omega (
      arith,
      counts_low module_place module_causes module_of_line c.args.text.now c.loop-rest.rest.now
          c.cut_line.result.1.now c.cut_line.result.0.now _ _ c.loop-rest.invariant
          c.cut_line.ensures.line (module_place c.in-Err.cause),
    )

pub loop-rest-preserved-in_ok-push-in-Ok : goal.loop-rest-preserved-in_ok-push-in-Ok
loop-rest-preserved-in_ok-push-in-Ok c =
    subst (λ taken. IsReadTo module_place module_causes module_of_line c.args.text.now
    c.cut_line.result.1.now taken c.loop-rest.counts.by_place)
    (sym c.in_ok-push-in-Ok.ensures.items)
    (one_taken module_place module_causes module_of_line c.args.text.now c.loop-rest.rest.now
    c.cut_line.result.1.now c.cut_line.result.0.now _ _ c.loop-rest.invariant
    c.cut_line.ensures.line 5 refl c.in-Ok.module (sym c.in-Ok.ensures))

pub loop-rest-preserved : goal.loop-rest-preserved
loop-rest-preserved c =
    subst (IsReadTo module_place module_causes module_of_line c.args.text.now
    c.cut_line.result.1.now c.loop-rest.modules.items) (sym c.add.ensures)
    (one_skipped module_place module_causes module_of_line c.args.text.now c.loop-rest.rest.now
    c.cut_line.result.1.now c.cut_line.result.0.now _ _ c.loop-rest.invariant
    c.cut_line.ensures.line 5 refl c.in-Err.cause (sym c.in-Err.ensures))

pub returns-clause-fit : goal.returns-clause-fit
returns-clause-fit c =
    let (done, joined, taken, counted) = c.loop-rest.invariant in
    subst (λ (ms : List ListedModule). All (λ m. fits m ≡ true) ms) (sym taken) (modules_fit done)
