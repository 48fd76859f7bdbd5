-- Symbols by their address and their name.
use Rattle.std.specs.Prelude.{ℕ, Bool, ◌&&◌, nat_eq, List}
use Rattle.std.specs.List.{list_any}
use Rattle.std.specs.Str.{bytes_eq}
use Rattle.modules.specs.Entries.{SymbolEntry}

-- one of the symbols has the address and the name
abbrev pub lists_symbol : List SymbolEntry → ℕ → List ℕ → Bool
lists_symbol symbols addr name =
    list_any (λ s. nat_eq s.addr addr && bytes_eq s.name name) symbols
