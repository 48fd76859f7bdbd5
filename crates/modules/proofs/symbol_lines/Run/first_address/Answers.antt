use Rattle.modules.proofs.Words.{List, ◌∙◌, ap, sym, find, option_map, bytes_eq, SymbolEntry}
use Rattle.modules.proofs.RunLemmas.{first_of_some, first_of_none}
use Rattle.modules.proofs.symbol_lines.Run.first_address.Goals as goal

pub returns-then-is_some : goal.returns-then-is_some
returns-then-is_some c = first_of_some c.args.self.now.module c.args.name.now
    c.args.self.now.symbols.items (sym c.is_some.ensures ∙ c.if-is_some.true)

pub returns : goal.returns
returns c =
    c.first_named.ensures
    ∙ ap (λ (ss : List SymbolEntry). option_map (λ s. s.addr)
    (find (λ s. bytes_eq s.name c.args.name.now) ss)) c.as_slice.ensures.value
    ∙ first_of_none c.args.self.now.module c.args.name.now c.args.self.now.symbols.items
    (sym c.is_some.ensures ∙ c.if-is_some.false)
