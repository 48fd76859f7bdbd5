-- The lines that are written for names, as text or as objects of JSON.
use Rattle.std.specs.Prelude.{ℕ, ◌+◌, ◌-◌, ◌^◌, Bool, ◌&&◌, true, not, nat_eq, nat_le, nat_lt}
use Rattle.std.specs.Prelude.{if◌then◌else◌}
use Rattle.std.specs.Option.{option_map_or}
use Rattle.command_listings.specs.declared.address_texts.AddressOptions.{AddressOptions}
use Rattle.command_listings.specs.declared.address_texts.TheConstants.{NO_ADDRESS}
use Rattle.command_listings.specs.declared.asked_names.Distance.{Distance}
use Rattle.std.specs.Prelude.{List, [], ◌++◌, codes, flat_map, Option, Some, None}
use Rattle.std.specs.List.{list_any}
use Rattle.std.specs.Str.{bytes_eq}
use Rattle.texts.specs.Exact.{hexadecimal}
use Rattle.modules.specs.Entries.{CatalogEntries}
use Rattle.modules.specs.Listed.{ListedSymbol}
use Rattle.command_listings.specs.AskedNames.{AskedSymbols, asked_of}
use Rattle.command_parts.specs.JsonTexts.{address_member, named_module, offset_members}
use Rattle.command_parts.specs.JsonTexts.{symbol_members}
use Rattle.command_listings.specs.KeptSymbols.{Kept, kept_symbols, named}
use Rattle.command_listings.specs.NoteTexts.{line_where}

-- the module that is asked for, if one is, is the symbol's; `-` is the kernel itself alone
abbrev pub is_of : Option (List ℕ) → Option (List ℕ) → Bool
is_of None owner = true
is_of (Some name) None = bytes_eq name (codes "-")
is_of (Some name) (Some owner) = not (bytes_eq name (codes "-")) && bytes_eq owner name

-- how many bytes the symbol reaches
abbrev pub size_of : Kept → ℕ
size_of k = k.end - k.addr

-- the offset is below the size; if a size is given this is it, and the offset may equal it, as for
-- a return address
abbrev pub is_within : Distance → ℕ → Bool
is_within above size =
    option_map_or (λ said. nat_eq said size && nat_le above.offset size) above.size
    (nat_lt above.offset size)

-- the address that is written for a symbol: the listing's, raised by the offset
abbrev pub told_address : AddressOptions → AskedSymbols → Kept → ℕ
told_address form a k = k.addr + a.above.offset + form.higher

-- the symbol is one of those asked for, the offset lies within it, and the address is one
abbrev pub is_told : AddressOptions → AskedSymbols → Kept → Bool
is_told form a k =
    is_of a.owner k.owner && is_within a.above (size_of k)
    && nat_lt (told_address form a k) (2 ^ 64)

-- ` [MODULE]`, and nothing for the kernel itself
abbrev pub owner_text : Option (List ℕ) → List ℕ
owner_text None = []
owner_text (Some name) = codes " [" ++ name ++ codes "]"

-- `NAME 0xADDRESS 0xSIZE [MODULE]`
unfoldable pub address_line : AddressOptions → List ℕ → AskedSymbols → Kept → List ℕ
address_line form word a k =
    word ++ codes " " ++ hexadecimal (told_address form a k) ++ codes " " ++ hexadecimal (size_of k)
    ++ owner_text k.owner ++ codes "\n"

-- the module of a symbol, and nothing for the kernel itself
abbrev pub owner_member : Option (List ℕ) → List ℕ
owner_member None = []
owner_member (Some name) = named_module name

-- the object of an address that lies above the symbol as it is asked for
unfoldable pub address_object : AddressOptions → AskedSymbols → Kept → List ℕ
address_object form a k =
    address_member (told_address form a k) ++ symbol_members k.name a.above.offset (size_of k)
    ++ owner_member k.owner ++ codes "}\n"

-- the line of a symbol that is written, as JSON or as text
unfoldable pub told_line : AddressOptions → List ℕ → AskedSymbols → Kept → List ℕ
told_line form word a k =
    if form.json then address_object form a k else address_line form word a k

-- the lines of these symbols, as far as they are written
abbrev pub told_lines : AddressOptions → List ℕ → AskedSymbols → List Kept → List ℕ
told_lines form word a symbols =
    flat_map (λ k. line_where (is_told form a k) (told_line form word a k)) symbols

-- `NAME -`
abbrev pub no_address : List ℕ → List ℕ
no_address word = word ++ NO_ADDRESS.now

-- the module that is asked for, and nothing if that is the kernel itself or none is named
abbrev pub asked_member : Option (List ℕ) → List ℕ
asked_member None = []
asked_member (Some name) = if bytes_eq name (codes "-") then [] else named_module name

-- the object of what is asked for, which has no address
unfoldable pub asked_object : AskedSymbols → List ℕ
asked_object a =
    codes "{" ++ offset_members a.symbol a.above.offset ++ asked_member a.owner ++ codes "}\n"

-- the line of a word without a symbol, as JSON or as text
unfoldable pub untold_line : AddressOptions → List ℕ → AskedSymbols → List ℕ
untold_line form word a = if form.json then asked_object a else no_address word

-- what is written for a word, if these are the symbols of its name
abbrev pub symbols_text : AddressOptions → List ℕ → AskedSymbols → List Kept → List ℕ
symbols_text form word a symbols =
    if list_any (is_told form a) symbols then told_lines form word a symbols
    else untold_line form word a

-- what is written for a word, if `found` gives the symbols of each name
abbrev pub word_text : AddressOptions → (List ℕ → List Kept) → List ℕ → List ℕ
word_text form found word = symbols_text form word (asked_of word) (found (asked_of word).symbol)

-- what is written for words
abbrev pub words_text : AddressOptions → (List ℕ → List Kept) → List (List ℕ) → List ℕ
words_text form found words = flat_map (word_text form found) words

-- a word has a line, if `found` gives the symbols of each name; and one of these words has
abbrev pub has_line : AddressOptions → (List ℕ → List Kept) → List ℕ → Bool
has_line form found word =
    list_any (is_told form (asked_of word)) (found (asked_of word).symbol)

abbrev pub has_any_line : AddressOptions → (List ℕ → List Kept) → List (List ℕ) → Bool
has_any_line form found words = list_any (has_line form found) words

-- what is written for words by a catalog, and the symbols of its listing in the order listed
abbrev pub address_text : AddressOptions → CatalogEntries → List ListedSymbol → List (List ℕ)
    → List ℕ
address_text form c symbols words = words_text form (named (kept_symbols c symbols)) words

-- the program's status: 1 if no word has a line
abbrev pub address_status : AddressOptions → CatalogEntries → List ListedSymbol → List (List ℕ) → ℕ
address_status form c symbols words =
    if has_any_line form (named (kept_symbols c symbols)) words then 0 else 1
