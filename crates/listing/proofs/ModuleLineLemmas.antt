-- What is read of a listing of modules.
use Rattle.listing.proofs.Words.{◌≡◌, ℕ, Bool, false, ◌==◌, nat_lt, cond, List, [], ◌∷◌, take}
use Rattle.listing.proofs.Words.{length, Ok, Err, Result, Some, None, ◌+◌, ◌^◌, refl, sym, ap, ◌∙◌}
use Rattle.listing.proofs.Words.{arith, All, cons_option, result_ok, All-cons, longest_line, fits}
use Rattle.listing.proofs.Words.{ListedModule, module_of_line, modules_in, checked_module}
use Rattle.listing.proofs.Words.{module_of_words, runs_of, SkippedModule}
use Rattle.std.proofs.Common.{true, Option, not, ◌&&◌}
use Rattle.listing.specs.declared.module_listing.SkippedModule.TheVariants.{Long, Hidden, Empty}
use Rattle.listing.specs.declared.module_listing.SkippedModule.TheVariants.{Wraps}

tests : (zero empty within : Bool) (x m : ListedModule)
    → cond zero (Err Hidden) (cond empty (Err Empty) (cond within (Ok x) (Err Wraps))) ≡ Ok m
    → (x ≡ m) × ((not zero && not empty && within) ≡ true)
tests false false true x m e = (cc, refl)
tests _ _ _ x m e = absurd (cc)

formed_fits : (o : Option ListedModule) (m : ListedModule) → checked_module o ≡ Ok m → fits m ≡ true
formed_fits None m e = absurd (cc)
formed_fits (Some x) m e =
    let (same, passed) =
    tests (x.base == 0) (x.size == 0) (nat_lt (x.base + x.size) (2 ^ 64)) x m e in
    ap fits (sym same) ∙ passed

pub module_fits : (line : List ℕ) (m : ListedModule) → module_of_line line ≡ Ok m → fits m ≡ true
module_fits line m =
    elim (nat_lt longest_line (length line)) as (λ b.
    cond b (Err Long) (checked_module (module_of_words (runs_of line))) ≡ Ok m → fits m ≡ true)
    [ true ↦ λ e. absurd (cc) | false ↦ λ e. formed_fits (module_of_words (runs_of line)) m e ]

all_fit_with : (said : Result ListedModule SkippedModule) (ms : List ListedModule)
    → ((m : ListedModule) → said ≡ Ok m → fits m ≡ true) → All (λ m. fits m ≡ true) ms
    → All (λ m. fits m ≡ true) (cons_option (result_ok said) ms)
all_fit_with (Ok m) ms fit all =
    All-cons (λ (x : ListedModule). fits x ≡ true) m ms (fit m refl) all
all_fit_with (Err cause) ms fit all = all

pub modules_fit : (lines : List (List ℕ)) → All (λ m. fits m ≡ true) (modules_in lines)
modules_fit [] = λ k d lt. absurd (omega arith)
modules_fit (line ∷ lines) =
    all_fit_with (module_of_line line) (modules_in lines) (module_fits line) (modules_fit lines)

-- only the first six words are looked at
pub six_words : (words : List (List ℕ)) → module_of_words (take 6 words) ≡ module_of_words words
six_words (a ∷ b ∷ c ∷ d ∷ e ∷ f ∷ words) = refl
six_words _ = refl
