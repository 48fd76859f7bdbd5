-- A symbol that is listed.
use Rattle.command_listings.proofs.Words.{⊎_elim, bytes_eq-Decides, ◌≡◌, ◌∙◌, ℕ, true, ◌||◌, List}
use Rattle.command_listings.proofs.Words.{sym, ap, bytes_eq, SymbolEntry}
use Rattle.modules.specs.AtAddress.{lists_symbol}
use Rattle.std.proofs.lemmas.Bool.{cases_Bool}

-- its own name needs no search
pub named_so : (symbols : List SymbolEntry) (addr : ℕ) (own name : List ℕ)
    → lists_symbol symbols addr own ≡ true
    → (bytes_eq own name || lists_symbol symbols addr name) ≡ lists_symbol symbols addr name
named_so symbols addr own name listed =
    ⊎_elim
    (λ yes. ap (λ b. b || lists_symbol symbols addr name) yes
    ∙ sym (rw ((bytes_eq-Decides own name).0 yes) at listed))
    (λ no. ap (λ b. b || lists_symbol symbols addr name) no)
    (cases_Bool (bytes_eq own name))
