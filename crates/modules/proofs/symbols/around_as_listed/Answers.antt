use Rattle.modules.proofs.Words.{ℕ, ◌<◌, [], arith, sym, ◌∙◌, common_steps}
use Rattle.std.proofs.lemmas.Option.{slice_get-get_or}
use Rattle.modules.proofs.Definitions.{SymbolEntry}
use Rattle.modules.proofs.RisingLemmas.{none_below, first_within, first_below, above_in}
use Rattle.modules.proofs.symbols.around_as_listed.Goals as goal

pub returns-then-split-eq0-clause-below : goal.returns-then-split-eq0-clause-below
returns-then-split-eq0-clause-below c = grind (arith, common_steps, none_below)

pub returns-then-split-eq0-clause-above : goal.returns-then-split-eq0-clause-above
returns-then-split-eq0-clause-above c = c.address_at-above.ensures ∙ above_in c.args.symbols.now
    c.args.addr c.split_at-split.result c.requires c.split_at-split.ensures

pub returns-clause-below : goal.returns-clause-below
returns-clause-below c =
    let symbols = c.args.symbols.now in
    let split : ℕ = c.split_at-split.result in
    let first : ℕ = c.first_of_equal-first.result in
    let parts = c.split_at-split.ensures in
    let some : 0 < split = omega arith in
    let s : SymbolEntry = record { addr = 0; letter = 0; name = [] } in
    let is = c.first_of_equal-first.ensures s in
    c.symbol_at.ensures ∙ slice_get-get_or symbols first s
    (first_within symbols c.args.addr split first s c.requires parts some is)
    ∙ sym (first_below symbols c.args.addr split first s c.requires parts some is)

pub returns-clause-above : goal.returns-clause-above
returns-clause-above c = c.address_at-above.ensures ∙ above_in c.args.symbols.now c.args.addr
    c.split_at-split.result c.requires c.split_at-split.ensures
