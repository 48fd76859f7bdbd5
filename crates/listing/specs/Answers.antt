-- What is known of an address, and its text.
use Rattle.std.specs.Prelude.{ℕ, Bool, ◌+◌, ◌&&◌, nat_eq, nat_le, nat_lt, if◌then◌else◌, List, []}
use Rattle.std.specs.Prelude.{◌++◌, codes}
use Rattle.std.specs.Prelude.{Option, Some, None, is_none, option_and_then}
use Rattle.std.specs.Option.{option_map, option_map_or}
use Rattle.listing.specs.declared.address_rules.AddressRule.{AddressRule}
use Rattle.listing.specs.AddressRules.{before_of, place_of}
use Rattle.texts.specs.Exact.{hexadecimal}
use Rattle.order_laws.specs.declared.items.Item.{Item}
use Rattle.modules.specs.Catalogs.{module_of}
use Rattle.modules.specs.Entries.{CatalogEntries, ModuleEntry}
use Rattle.modules.specs.Found.{Found, found_in, symbols_from}

-- ---- what is known

-- the symbol that an address belongs to, with the address's offset in it, and the name of its
-- module, unless it is the kernel itself
pub record Known : Type 0 where
  pub found : Option Found
  pub owner : Option (List ℕ)

abbrev pub nothing : Known
nothing = record { found = None; owner = None }

abbrev pub is_nothing : Known → Bool
is_nothing k = is_none k.found && is_none k.owner

-- the symbol, with the offset of an address this many bytes farther on
abbrev pub farther : ℕ → Found → Found
farther bytes f = record f { offset = f.offset + bytes }

-- of an address in a region of the module, for an answer about one `before` bytes farther on
abbrev pub answer_in : ModuleEntry → Item → ℕ → ℕ → Known
answer_in m item before addr = record {
  found =
      option_map (farther before) (found_in (symbols_from m.symbols item.a item.b) item.b addr);
  owner = if nat_eq item.tag 0 then None else Some m.name;
}

-- of an address that the item holds
abbrev pub held_answer : CatalogEntries → Item → ℕ → ℕ → Known
held_answer c item before addr =
    option_map_or (λ m. answer_in m item before addr) (module_of c item.tag) nothing

-- the item and the address, if the item holds it
abbrev pub held_at : Option Item → ℕ → Option (Item × ℕ)
held_at None addr = None
held_at (Some item) addr =
    if nat_le item.a addr && nat_lt addr item.b then Some (item, addr) else None

-- the item and the address that a rule looks up, for which the item was found
abbrev pub sought : AddressRule → Option Item → ℕ → Option (Item × ℕ)
sought rule item addr = option_and_then (held_at item) (place_of rule addr)

-- of an address that is taken by a rule, and the item that was found for the one looked up
abbrev pub answer_of : CatalogEntries → AddressRule → Option Item → ℕ → Known
answer_of c rule item addr =
    option_map_or (λ s. held_answer c s.0 (before_of rule) s.1) (sought rule item addr) nothing

-- ---- its text

-- `NAME+0xOFFSET/0xSIZE`
unfoldable pub symbol_text : Found → List ℕ
symbol_text f =
    f.symbol.name ++ codes "+" ++ hexadecimal f.offset ++ codes "/" ++ hexadecimal f.size

-- ` [MODULE]`, and nothing for the kernel itself
unfoldable pub owner_text : Option (List ℕ) → List ℕ
owner_text None = []
owner_text (Some name) = codes " [" ++ name ++ codes "]"

-- a symbol, `?` if the module alone is known, and `-` if nothing is
abbrev pub text_of : Known → List ℕ
text_of k =
    option_map_or symbol_text k.found (if is_nothing k then codes "-" else codes "?")
    ++ owner_text k.owner

-- of an address that is taken by a rule, and the item that was found for the one looked up
abbrev pub answer_text_by : CatalogEntries → AddressRule → Option Item → ℕ → List ℕ
answer_text_by c rule item addr = text_of (answer_of c rule item addr)
