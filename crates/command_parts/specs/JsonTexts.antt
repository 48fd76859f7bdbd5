-- The lines that are written as JSON, an object each: the lines of a lookup, and the members that
-- lines of names share with them.
use Rattle.std.specs.Prelude.{ℕ, List, [], ◌++◌, codes, flat_map}
use Rattle.std.specs.Option.{option_map_or}
use Rattle.texts.specs.Exact.{hexadecimal}
use Rattle.listing.specs.Answers.{Known}
use Rattle.listing.specs.Tallies.{Tallies, Tally}
use Rattle.modules.specs.Found.{Found}
use Rattle.command_parts.specs.Json.{json_number, json_string}
use Rattle.command_parts.specs.declared.json_texts.TheConstants as text

-- the address, with which an object begins
abbrev pub address_member : ℕ → List ℕ
address_member addr = text.ADDRESS.now ++ hexadecimal addr ++ codes "\""

-- a symbol, and how far an address lies above it
unfoldable pub offset_members : List ℕ → ℕ → List ℕ
offset_members name offset =
    text.SYMBOL.now ++ json_string name ++ text.OFFSET.now ++ json_number offset

-- a symbol, how far an address lies above it, and how far it reaches
unfoldable pub symbol_members : List ℕ → ℕ → ℕ → List ℕ
symbol_members name offset size =
    codes "," ++ offset_members name offset ++ text.SIZE.now ++ json_number size

-- of a symbol that was found
abbrev pub found_members : Found → List ℕ
found_members f = symbol_members f.symbol.name f.offset f.size

-- a module of this name
abbrev pub named_module : List ℕ → List ℕ
named_module name = text.MODULE.now ++ json_string name

-- what is known of an address: the symbol and the module, as far as they are
abbrev pub answer_members : Known → List ℕ
answer_members k = option_map_or found_members k.found [] ++ option_map_or named_module k.owner []

-- the object of an address
unfoldable pub json_line : ℕ → Known → List ℕ
json_line addr k = address_member addr ++ answer_members k ++ codes "}\n"

-- the text before a count, and the count
abbrev pub json_count : List ℕ → ℕ → List ℕ
json_count before count = before ++ json_number count

-- `,"NAME":COUNT`
unfoldable pub row_member : List ℕ × ℕ → List ℕ
row_member row = codes ",\"" ++ row.0 ++ json_count (codes "\":") row.1

-- `"TITLE":{"kept":KEPT`, and each row, after this text
unfoldable pub tally_member : List ℕ → Tally → List ℕ
tally_member before t =
    before ++ codes "\"" ++ t.title ++ json_count text.KEPT.now t.kept
    ++ flat_map row_member t.rows ++ codes "}"

-- the object of the counts of listings
unfoldable pub json_counts : Tallies → List ℕ
json_counts t =
    tally_member (codes "{") t.modules ++ tally_member (codes ",") t.symbols
    ++ option_map_or (tally_member (codes ",")) t.regions [] ++ codes "}\n"
