use Rattle.modules.proofs.Words.{◌≡◌, ◌∙◌, ◌++◌, Bool, true, sym, ap}
use Rattle.std.specs.List.{list_all}
use Rattle.modules.proofs.Definitions.{lies_in, SymbolEntry}
use Rattle.modules.proofs.FilterLemmas.{filter_whole}
use Rattle.modules.specs.Gathering.{kept_by}
use Rattle.modules.proofs.gathering.GatheredSymbols.put.Goals as goal

pub returns-then-are_kept : goal.returns-then-are_kept
returns-then-are_kept c =
    let owner = c.args.owner.now in
    let symbols = c.args.symbols.now in
    let kept : SymbolEntry → Bool = λ s. lies_in owner s.addr in
    let all : list_all kept symbols ≡ true =
    ap (list_all kept) (sym (c.as_slice-listed.ensures ∙ c.table.ensures))
    ∙ sym c.are_kept.ensures
    ∙ c.if-are_kept.true in
    c.in_ok-share.ensures
    ∙ sym (ap (λ es. es ++ kept_by owner symbols) (c.is_nothing.ensures c.if-is_nothing.true)
    ∙ filter_whole kept symbols all)
