-- Answers that are found in what a reader knows, and in what is known later.
use Rattle.shared_lookup.proofs.Words.{◌≡◌, ℕ, ◌-◌, List, [], ◌∷◌, ◌++◌, length, take, get_or, sym}
use Rattle.shared_lookup.proofs.Words.{◌∙◌, ap, subst, arith, length-append, take-append-le}
use Rattle.shared_lookup.proofs.Words.{take_all, All-nil, All-push, IsNonDecreasingBy-push}
use Rattle.shared_lookup.proofs.Words.{IsNonDecreasingBy-short, IsPrefix, half_open, look, Update}
use Rattle.shared_lookup.proofs.Words.{replay, Answer, AreFoundIn, IsFoundIn}
use Rattle.std.proofs.Common.{◌≤◌}

pub length-prefix : (log log' : List Update) → IsPrefix log log' → length log ≤ length log'
length-prefix log log' p = let e = ap length p.1 in
    let n = length-append log p.0 in
    omega (arith, e, n)

pub take-prefix : (log log' : List Update) (n : ℕ) → IsPrefix log log' → n ≤ length log
    → take n log' ≡ take n log
take-prefix log log' n p few =
    subst (λ (us : List Update). take n us ≡ take n log) p.1 (take-append-le n log p.0 few)

found_later : (log log' : List Update) (a : Answer) → IsPrefix log log' → IsFoundIn log a
    → IsFoundIn log' a
found_later log log' a p f =
    let few = f.0 in (
      (let n = length-prefix log log' p in omega (arith, few, n)),
      f.1 ∙ ap (λ (us : List Update). look half_open a.key (replay half_open [] us))
          (sym (take-prefix log log' a.generation p few)),
    )

-- what is found in a beginning is found in the whole
pub all_found_later : (log log' : List Update) (answers : List Answer) → IsPrefix log log'
    → AreFoundIn log answers → AreFoundIn log' answers
all_found_later log log' answers p f =
    (λ k d l. found_later log log' (get_or answers k d) p (f.0 k d l), f.1)

pub none_found : (log : List Update) → AreFoundIn log []
none_found log = (
  All-nil (IsFoundIn log),
  IsNonDecreasingBy-short (λ (a : Answer). a.generation) [] (omega arith),
)

-- an answer more, of all that is known now
pub found_more : (log log' : List Update) (answers : List Answer) (a : Answer) → IsPrefix log log'
    → AreFoundIn log answers
    → a.generation ≡ length log' → a.item ≡ look half_open a.key (replay half_open [] log')
    → AreFoundIn log' (answers ++ a ∷ [])
found_more log log' answers a p f count is =
    let before = all_found_later log log' answers p f in
    let whole : take a.generation log' ≡ log' = take_all a.generation log' (omega (arith, count)) in
    let last : IsFoundIn log' a = (
      omega (arith, count),
      is ∙ ap (λ (us : List Update). look half_open a.key (replay half_open [] us)) (sym whole),
    ) in (
      All-push (IsFoundIn log') answers a before.0 last,
      IsNonDecreasingBy-push (λ (x : Answer). x.generation) answers a f.1
          (λ d some. let g = before.0 (length answers - 1) d (omega (arith, some)) in
          omega (arith, g.0, count)),
    )
