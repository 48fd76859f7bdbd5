-- What a log says itself of its addresses, and which reading of an address it names.
use Rattle.std.specs.Prelude.{ℕ, ◌-◌, ◌==◌, ◌||◌, ◌&&◌, not, Bool, true, false, if◌then◌else◌}
use Rattle.std.specs.Prelude.{List, [], ◌∷◌, length, drop, take, codes, nat_eq}
use Rattle.std.specs.Prelude.{Option, None, Some, option_and_then}
use Rattle.std.specs.List.{ends_with, starts_with}
use Rattle.std.specs.Option.{option_map_or}
use Rattle.logs.specs.Answering.{Answering}
use Rattle.logs.specs.SaidNames.{NameAndDistance, name_said}
use Rattle.logs.specs.declared.address_words.AddressWord.{AddressWord}
use Rattle.logs.specs.declared.own_names.NamedReadings.{NamedReadings}

-- the bytes without a `]` at their end
abbrev pub without_bracket : List ℕ → List ℕ
without_bracket text =
    if ends_with nat_eq text (codes "]") then take (length text - 1) text else text

-- the bytes begin with the text
abbrev pub begins_so : List ℕ → List ℕ → Bool
begins_so bytes text = starts_with nat_eq bytes text

-- the bytes begin with a blank, perhaps `? ` or `(`, and the text, up to a `]` at its end
abbrev pub says_itself : List ℕ → List ℕ → Bool
says_itself [] text = false
says_itself (b ∷ rest) text =
    let said = drop 1 (without_bracket text) in
    b == 32
    && (begins_so rest said
    || (starts_with nat_eq rest (codes "? ") && begins_so (drop 2 rest) said)
    || (starts_with nat_eq rest (codes "(") && begins_so (drop 1 rest) said))

-- there is a text, and the bytes say it
abbrev pub says_text : List ℕ → Option (List ℕ) → Bool
says_text rest None = false
says_text rest (Some text) = says_itself rest text

-- Which readings of an address have the name that the log says, if it says one: their symbol's, or
-- another symbol's at its address.
abbrev pub named_readings : Answering → Option NameAndDistance → ℕ → NamedReadings
named_readings answer None value = record { as_caller = false; as_it_is = false }
named_readings answer (Some said) value = record {
  as_caller = answer.is_alias true value said.name;
  as_it_is = answer.is_alias false value said.name;
}

-- a reading that has the name has this offset too
unfoldable pub has_offset : Answering → NamedReadings → ℕ → ℕ → Bool
has_offset answer named value offset =
    (named.as_it_is && answer.is_offset false value offset)
    || (named.as_caller && answer.is_offset true value offset)

-- a reading of an address has the name that the log says, and its offset, whatever size is said
unfoldable pub says_place : Answering → Option NameAndDistance → ℕ → Bool
says_place answer said value =
    option_map_or (λ offset. has_offset answer (named_readings answer said value) value offset)
    (option_and_then (λ s. s.distance.offset) said) false

-- the text of the answer, if it has one and the address is of this kernel
abbrev pub text_for : Answering → AddressWord → Option (List ℕ)
text_for answer t = if t.is_foreign then None else answer.text t.is_caller t.value

-- ---- how it is taken, if the listing or the log itself decides

-- The one of both readings that alone has the name, else the reading of the place.
abbrev pub chosen : Bool → Bool → Bool → Bool
chosen true false by_place = true
chosen false true by_place = false
chosen _ _ by_place = by_place

abbrev pub by_name : NamedReadings → AddressWord → AddressWord
by_name named t = record t { is_caller = chosen named.as_caller named.as_it_is t.is_caller }

-- Data is no return address: if it begins at the address, this is taken as it is, else by its
-- place.
abbrev pub by_data : Answering → AddressWord → AddressWord
by_data answer t = record t { is_caller = t.is_caller && not (answer.is_data t.value) }

-- An address word of this kernel, before the rest of its line, is read as the log names it. (If the
-- log has the text of the answer itself, it names the address by it.)
unfoldable pub as_read : Answering → List ℕ → AddressWord → AddressWord
as_read answer rest t =
    let placed = by_data answer t in
    if t.is_foreign then t
    else if says_text rest (text_for answer placed) then placed
    else by_name (named_readings answer (name_said rest) t.value) placed

-- ---- what is inserted

-- there is a text, and the bytes neither say it nor name the address with its offset
abbrev pub is_missing : Answering → ℕ → List ℕ → Option (List ℕ) → Bool
is_missing answer value rest None = false
is_missing answer value rest (Some text) =
    not (says_itself rest text || says_place answer (name_said rest) value)

-- the text, if it is missing
abbrev pub insertion : Answering → ℕ → List ℕ → Option (List ℕ) → Option (List ℕ)
insertion answer value rest text = if is_missing answer value rest text then text else None
