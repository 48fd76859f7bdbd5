-- What a table of symbols keeps.
use Rattle.std.specs.Prelude.{◌≡◌, true}
use Rattle.modules.specs.Index.{HasOrdered, IsRising}
use Rattle.modules.specs.declared.symbol_tables.SymbolTable.TheInside.{Inside}

-- its symbols rise if it says so, and a copy in order is theirs
pub record IsWholeTable (t : Inside) : Type 0 where
  pub rising : t.rising ≡ true → IsRising t.symbols.items
  pub ordered : HasOrdered t.symbols.items t.by_address
