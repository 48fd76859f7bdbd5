-- The addresses of a log that have a name, and the names that it has itself after them.
use Rattle.std.specs.Prelude.{ℕ, ◌&&◌, ◌||◌, Bool, true, false, List}
use Rattle.std.specs.Prelude.{if◌then◌else◌, ◌++◌, codes, nat_eq, nat_le, nat_lt, Option, Some}
use Rattle.std.specs.Prelude.{None}
use Rattle.std.specs.List.{starts_with}
use Rattle.std.specs.Option.{option_map_or}
use Rattle.logs.specs.Answering.{Answering}
use Rattle.logs.specs.KernelReports.{nothing_said, one_more, reported}
use Rattle.logs.specs.SaidNames.{NameAndDistance, name_said}
use Rattle.logs.specs.declared.log_names.LogNames.{LogNames}
use Rattle.logs.specs.declared.address_words.AddressWord.{AddressWord}

-- the name that the log says of an address with its offset and its size, if it says one
abbrev pub sized_name : Option NameAndDistance → Option (List ℕ)
sized_name None = None
sized_name (Some said) = if said.distance.has_size then Some said.name else None

-- nothing is counted
abbrev pub no_names : LogNames
no_names =
    record { addresses = 0; named = 0; agreeing = 0; disagreeing = 0; kernel = nothing_said }

-- The text of the answer has the name, or another symbol at its address has it.
abbrev pub agrees : Answering → AddressWord → List ℕ → List ℕ → Bool
agrees answer t text name =
    starts_with nat_eq text (codes " " ++ name ++ codes "+")
    || answer.is_alias t.is_caller t.value name

-- a name more that agrees, or that does not
abbrev pub with_name : Bool → LogNames → LogNames
with_name true names = record names { agreeing = one_more names.agreeing }
with_name false names = record names { disagreeing = one_more names.disagreeing }

-- an address more that the listing could hold, or another one
abbrev pub with_one : Bool → LogNames → LogNames
with_one true names = record names { addresses = one_more names.addresses }
with_one false names = names

-- An address more, with its answer's text if it has one, before the rest of its line.
abbrev pub with_address : Answering → AddressWord → List ℕ → Option (List ℕ)
    → LogNames → LogNames
with_address answer t rest None names = with_one (answer.is_in_range t.value) names
with_address answer t rest (Some text) names =
    let one = with_one (answer.is_in_range t.value) names in
    let more = record one { named = one_more one.named } in
    option_map_or (λ name. with_name (agrees answer t text name) more) (sized_name (name_said rest))
    more

-- what a line says of its kernel more
abbrev pub with_line : Answering → List ℕ → LogNames → LogNames
with_line answer line names = record names { kernel = reported answer line names.kernel }

-- of another boot than the listing: five names or more do not agree, and more than those that do
abbrev pub is_of_another_boot : LogNames → Bool
is_of_another_boot names = nat_le 5 names.disagreeing && nat_lt names.agreeing names.disagreeing

-- it has addresses that the listing could hold, and none has a name
abbrev pub is_unnamed : LogNames → Bool
is_unnamed names = nat_lt 0 names.addresses && nat_eq names.named 0
