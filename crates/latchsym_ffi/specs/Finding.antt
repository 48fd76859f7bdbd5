-- What is known of an address, and what a call writes of it.
use Rattle.std.specs.Prelude.{◌≡◌, ℕ, List, [], ◌++◌, length, take, drop, Option, Some, None}
use Rattle.std.specs.Option.{option_and_then, option_map, option_map_or}
use Rattle.listing.specs.AddressRules.{lower_by}
use Rattle.listing.specs.Answers.{farther}
use Rattle.order_laws.specs.declared.items.Item.{Item}
use Rattle.modules.specs.Catalogs.{module_of}
use Rattle.modules.specs.Entries.{CatalogEntries}
use Rattle.modules.specs.Found.{Found, symbol_at}
use Rattle.modules.specs.Items.{item_of_address}
use Rattle.latchsym_ffi.specs.Answers.{answer_number}
use Rattle.latchsym_ffi.specs.declared.answers.CallOutcome.TheVariants.{Done, NoSymbol, Nothing}
use Rattle.latchsym_ffi.specs.declared.finding.CatalogAnswer.{CatalogAnswer}
use Rattle.latchsym_ffi.specs.declared.finding.RegionAndSymbol.{RegionAndSymbol}
use Rattle.latchsym_ffi.specs.declared.finding.Description.{Description}
use Rattle.latchsym_ffi.specs.declared.finding.AddressUse.{AddressUse}
use Rattle.latchsym_ffi.specs.declared.finding.AddressUse.TheVariants.{AsItIs, AsReturn}

-- the item of the region that an address lies in, if any, and the symbol that it belongs to there,
-- if any
abbrev pub Known : Type 0
Known = Option (Item × Option Found)

abbrev pub known_at : CatalogEntries → ℕ → Known
known_at c addr = option_map (λ i. (i, symbol_at c i addr)) (item_of_address c addr)

-- what is known of a return address: the address one byte lower is looked up, and the offset is
-- counted to the return address
abbrev pub known_call : CatalogEntries → ℕ → Known
known_call c addr =
    option_and_then
    (λ place. option_map (λ k. (k.0, option_map (farther 1) k.1)) (known_at c place))
    (lower_by 1 addr)

-- what is known of an address, looked up so
abbrev pub known_as : AddressUse → CatalogEntries → ℕ → Known
known_as AsItIs = known_at
known_as AsReturn = known_call

-- what is known of an address in the item that a table has for it
abbrev pub known_in : CatalogEntries → ℕ → Option Item → Known
known_in c addr x = option_map (λ i. (i, symbol_at c i addr)) x

abbrev pub shown_seen : RegionAndSymbol → Item × Option Found
shown_seen s = (s.item, s.found)

-- the number that is returned
abbrev pub known_code : Known → ℕ
known_code None = answer_number Nothing
known_code (Some (i, None)) = answer_number NoSymbol
known_code (Some (i, Some f)) = answer_number Done

-- the name of the module of a number
abbrev pub module_name : CatalogEntries → ℕ → List ℕ
module_name c number = option_map_or (λ m. m.name) (module_of c number) []

abbrev pub symbol_named : Known → List ℕ
symbol_named None = []
symbol_named (Some (i, None)) = []
symbol_named (Some (i, Some f)) = f.symbol.name

abbrev pub owner_named : CatalogEntries → Known → List ℕ
owner_named c None = []
owner_named c (Some (i, f)) = module_name c i.tag

abbrev pub empty_description : CatalogAnswer
empty_description = record { module_number = 0; offset = 0; size = 0; name_len = 0; module_len = 0 }

-- the numbers that are returned
abbrev pub answer_of : CatalogEntries → Known → CatalogAnswer
answer_of c None = empty_description
answer_of c (Some (i, None)) =
    record empty_description { module_number = i.tag; module_len = length (module_name c i.tag) }
answer_of c (Some (i, Some f)) =
    record {
      module_number = i.tag;
      offset = f.offset;
      size = f.size;
      name_len = length f.symbol.name;
      module_len = length (module_name c i.tag);
    }

-- what a call writes of what is known
pub record Describes (c : CatalogEntries) (k : Known) (t : Description) : Type 0 where
  pub code : t.code ≡ known_code k
  pub answer : t.answer ≡ answer_of c k
  pub symbol : t.symbol.now ≡ symbol_named k
  pub owner : t.owner.now ≡ owner_named c k

-- a room that begins with as many bytes of a name as it has, and else is as it was
abbrev pub copied : List ℕ → List ℕ → List ℕ
copied name room = take (length room) name ++ drop (length name) room
