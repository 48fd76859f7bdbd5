-- Names that symbols have in the place of a module's, and that no listing of modules has.
use Rattle.std.specs.Prelude.{ℕ, Bool, false, true, not, ◌&&◌, List, [], ◌∷◌, find, is_some, Option}
use Rattle.std.specs.Prelude.{Some}
use Rattle.std.specs.Option.{option_and_then}
use Rattle.std.specs.Str.{bytes_eq}
use Rattle.modules.specs.Lines.{first_owner}
use Rattle.modules.specs.Listed.{ListedModule, ListedSymbol}
use Rattle.listing.specs.Overlaps.{is_listed_name}
use Rattle.listing.specs.declared.owners.Owner.{Owner}
use Rattle.listing.specs.declared.owners.Owner.TheVariants.{Bpf, Ftrace, Kprobes}
use Rattle.listing.specs.declared.owners.TheConstants.{BPF, FTRACE, KPROBES}

-- what symbols call it
abbrev pub owner_name : Owner → List ℕ
owner_name Bpf = BPF.now
owner_name Ftrace = FTRACE.now
owner_name Kprobes = KPROBES.now

-- the one that is called so
abbrev pub owner_called : List ℕ → Option Owner
owner_called name = find (λ o. bytes_eq (owner_name o) name) (Bpf ∷ Ftrace ∷ Kprobes ∷ [])

-- such an owner has the name, and no listed module does
abbrev pub is_unlisted : List ListedModule → List ℕ → Bool
is_unlisted modules name = is_some (owner_called name) && not (is_listed_name modules name)

-- the owner of the first symbol that has such a name in the place of a module's name
abbrev pub unlisted_owner : List ListedModule → List ListedSymbol → Option Owner
unlisted_owner modules symbols =
    option_and_then owner_called (first_owner (is_unlisted modules) symbols)

-- it is this one
abbrev pub is_owner : Owner → Option Owner → Bool
is_owner Bpf (Some Bpf) = true
is_owner Ftrace (Some Ftrace) = true
is_owner Kprobes (Some Kprobes) = true
is_owner _ _ = false
