-- How the addresses of a log are answered by the catalog of listings.
use Rattle.std.specs.Prelude.{ℕ, ◌&&◌, ◌||◌, ◌==◌, Bool, true, false, if◌then◌else◌, List, ◌++◌}
use Rattle.std.specs.Prelude.{codes, nat_eq, nat_le, Option, Some, None, option_and_then}
use Rattle.std.specs.List.{list_any}
use Rattle.std.specs.Option.{option_map_or}
use Rattle.order_laws.specs.declared.items.Item.{Item}
use Rattle.modules.specs.AtAddress.{lists_symbol}
use Rattle.modules.specs.Catalogs.{module_of}
use Rattle.modules.specs.Entries.{CatalogEntries, ModuleEntry}
use Rattle.modules.specs.Found.{Found, found_in, symbols_from}
use Rattle.modules.specs.Items.{item_of_address, items_of}
use Rattle.listing.specs.AddressRules.{place_of, rule_at}
use Rattle.listing.specs.Answers.{Known, answer_of, is_nothing, sought, text_of}
use Rattle.listing.specs.declared.address_rules.AddressRule.{AddressRule}
use Rattle.listing.specs.declared.address_rules.Callers.{Callers}
use Rattle.listing.specs.declared.address_rules.Callers.TheVariants.{ByPlace}
use Rattle.listing.specs.declared.address_rules.LogRule.{LogRule}
use Rattle.logs.specs.Answering.{Answering}
use Rattle.command_listings.specs.Sizes.{has_size_by}

-- what is known of an address
abbrev pub answer_at : CatalogEntries → AddressRule → ℕ → Known
answer_at c rule addr =
    answer_of c rule (option_and_then (item_of_address c) (place_of rule addr)) addr

-- a blank and the text, unless nothing is known
abbrev pub behind_blank : Known → Option (List ℕ)
behind_blank k = if is_nothing k then None else Some (codes " " ++ text_of k)

-- a blank and the text of the answer by this rule, for an address whose place says that it is a
-- caller's, or does not
abbrev pub text_by : CatalogEntries → LogRule → Bool → ℕ → Option (List ℕ)
text_by c rule says_so addr = behind_blank (answer_at c (rule_at rule says_so) addr)

-- a symbol at the address of the one that an address of the item belongs to has the name
abbrev pub is_alias_of : ModuleEntry → Item → ℕ → List ℕ → Bool
is_alias_of m item addr name =
    option_map_or (λ f. lists_symbol m.symbols f.symbol.addr name)
    (found_in (symbols_from m.symbols item.a item.b) item.b addr) false

abbrev pub is_alias_in : CatalogEntries → Item → ℕ → List ℕ → Bool
is_alias_in c item addr name =
    option_map_or (λ m. is_alias_of m item addr name) (module_of c item.tag) false

-- how a reading of an address is looked up, that as a caller's or that as it is, whatever the rule
-- says
abbrev pub reading_at : LogRule → Bool → AddressRule
reading_at rule is_caller = record { callers = is_caller; offset = rule.offset }

-- a reading's symbol, or another one at its address, has the name
abbrev pub is_alias_by : CatalogEntries → LogRule → Bool → ℕ → List ℕ → Bool
is_alias_by c rule is_caller addr name =
    let r = reading_at rule is_caller in
    option_map_or (λ s. is_alias_in c s.0 s.1 name)
    (sought r (option_and_then (item_of_address c) (place_of r addr)) addr) false

-- a reading has this offset from its symbol
abbrev pub is_offset_by : CatalogEntries → LogRule → Bool → ℕ → ℕ → Bool
is_offset_by c rule is_caller addr offset =
    option_map_or (λ f. nat_eq f.offset offset) (answer_at c (reading_at rule is_caller) addr).found
    false

-- the letter of a symbol's kind is one of data: `b`, `d` or `r`, in either case
abbrev pub is_letter_of_data : ℕ → Bool
is_letter_of_data letter =
    letter == 98 || letter == 66 || letter == 100 || letter == 68 || letter == 114 || letter == 82

-- data begins at an address: the first symbol listed at it has such a letter
abbrev pub begins_data : Found → Bool
begins_data f = nat_eq f.offset 0 && is_letter_of_data f.symbol.letter

-- the place of an address in its line is asked how it is taken
abbrev pub asks_place : Callers → Bool
asks_place ByPlace = true
asks_place _ = false

abbrev pub is_data_by : CatalogEntries → LogRule → ℕ → Bool
is_data_by c rule addr =
    asks_place rule.callers
    && option_map_or begins_data (answer_at c (reading_at rule false) addr).found false

-- an address is not below the first region: one begins at or below it
abbrev pub is_reached : CatalogEntries → ℕ → Bool
is_reached c addr = list_any (λ i. nat_le i.a addr) (items_of c)

abbrev pub is_in_range_by : CatalogEntries → LogRule → ℕ → Bool
is_in_range_by c rule addr =
    option_map_or (is_reached c) (place_of (reading_at rule false) addr) false

-- how the addresses of a log are answered, which is one of a 32-bit kernel or not
abbrev pub answered_by : CatalogEntries → LogRule → Bool → Answering
answered_by c rule is_narrow = record {
  is_narrow = is_narrow;
  text = text_by c rule;
  is_alias = is_alias_by c rule;
  is_offset = is_offset_by c rule;
  is_data = is_data_by c rule;
  has_size = has_size_by c;
  is_in_range = is_in_range_by c rule;
}
