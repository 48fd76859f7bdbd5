-- The names of the symbols of a catalog, module by module.
use Rattle.modules.proofs.Words.{◌≡◌, ℕ, ◌+◌, ◌<◌, List, ◌∷◌, [], ◌++◌, length, get_or, take, ap}
use Rattle.modules.proofs.Words.{◌∙◌, arith, append-nil, zero-add, enumerate_from}
use Rattle.std.proofs.lemmas.List.FromFn.{get_or-enumerate_from}
use Rattle.modules.proofs.Lemmas.{flat_map-append, get_or-map, length-enumerate_from, length-map}
use Rattle.modules.proofs.Lemmas.{range-append_from_zero, take_more}
use Rattle.modules.proofs.Definitions.{CatalogEntries, SymbolEntry, SymbolName, names_of_symbols}
use Rattle.modules.proofs.Definitions.{names_below, names_in_module}

-- the name of a symbol, with its place
abbrev name_of : ℕ → ℕ × SymbolEntry → SymbolName
name_of number p = record { name = p.1.name; number = number; place = p.0 }

pub counted : (number : ℕ) (symbols : List SymbolEntry)
    → length (names_of_symbols number symbols) ≡ length symbols
counted number symbols =
    length-map (enumerate_from 0 symbols) (name_of number) ∙ length-enumerate_from 0 symbols

-- one symbol more
pub one_more : (number : ℕ) (symbols : List SymbolEntry) (k : ℕ) (s : SymbolEntry)
    → k < length symbols
    → take (k + 1) (names_of_symbols number symbols)
    ≡ take k (names_of_symbols number symbols)
    ++ (record { name = (get_or symbols k s).name; number = number; place = k }) ∷ []
one_more number symbols k s within =
    let d : SymbolName = record { name = []; number = 0; place = 0 } in
    let inside : k < length (enumerate_from 0 symbols) =
    rw (length-enumerate_from 0 symbols) within in
    let at : get_or (names_of_symbols number symbols) k d ≡ name_of number (k, get_or symbols k s) =
    get_or-map (name_of number) (enumerate_from 0 symbols) k (0, s) d inside
    ∙ ap (name_of number) (get_or-enumerate_from 0 symbols k (0, s) within
    ∙ ap (λ n. (n, get_or symbols k s)) (zero-add k)) in
    take_more (names_of_symbols number symbols) k d (rw (counted number symbols) within)
    ∙ ap (λ n. take k (names_of_symbols number symbols) ++ n ∷ []) at

-- one module more
pub one_number_more : (c : CatalogEntries) (k : ℕ)
    → names_below c (k + 1) ≡ names_below c k ++ names_in_module c k
one_number_more c k = grind (arith, range-append_from_zero, flat_map-append, append-nil)
