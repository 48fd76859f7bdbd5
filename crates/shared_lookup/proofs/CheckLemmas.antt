-- The count of wrong answers, by its test.
use Rattle.shared_lookup.proofs.Words.{◌≡◌, ℕ, suc, Bool, true, false, List, [], ◌∷◌, length, take}
use Rattle.shared_lookup.proofs.Words.{subst, sym, Option, Some, None, refl, ap, inl, inr, ⊎_elim}
use Rattle.shared_lookup.proofs.Words.{arith, cond, Bor, Vec, sum_by-cons, All, count_by, nat_lt}
use Rattle.shared_lookup.proofs.Words.{not, ◌||◌, IfOk, Ok, Err, Result, Item, half_open, look}
use Rattle.shared_lookup.proofs.Words.{Update, replay, Refusal, Answer, answers_at, is_same_item}
use Rattle.shared_lookup.proofs.Words.{is_wrong_answer, Counts, EachIsFoundIn, IsFoundIn}
use Rattle.shared_lookup.proofs.Words.{IsWrongAnswer, entries}
use Rattle.std.proofs.lemmas.Bool.Decides.{nat_tests}
use Rattle.std.specs.Result.{result_unwrap_or}
use Rattle.shared_lookup.proofs.CountLemmas.{counts_append, counts_of}

same_items : (x y : Option Item) → is_same_item x y ≡ true → x ≡ y
same_items None None e = refl
same_items None (Some j) e = absurd cc
same_items (Some i) None e = absurd cc
same_items (Some i) (Some j) e =
    let a : i.a ≡ j.a = grind (arith, nat_tests) in
    let b : i.b ≡ j.b = grind (arith, nat_tests) in
    let t : i.tag ≡ j.tag = grind (arith, nat_tests) in
    λ k. Some (record { a = a k; b = b k; tag = t k })

itself : (x : Option Item) → is_same_item x x ≡ true
itself None = refl
itself (Some i) = grind (arith, nat_tests)

module _ (log : List Update) (a : Answer) where
  abbrev found : Option Item
  found = look half_open a.key (replay half_open [] (take a.generation log))

  wrong_by : (p q : Bool) → nat_lt (length log) a.generation ≡ p → is_same_item a.item found ≡ q
      → (p || not q) ≡ true → IsWrongAnswer log a
  wrong_by true q ep eq e = inl (let h = ep in grind (arith, nat_tests))
  wrong_by false true ep eq e = absurd cc
  wrong_by false false ep eq e =
      inr (λ same. absurd (let f : is_same_item a.item a.item ≡ is_same_item a.item found =
      ap (is_same_item a.item) same in let g = itself a.item in let h = eq in cc))

  right_by : (p q : Bool) → nat_lt (length log) a.generation ≡ p → is_same_item a.item found ≡ q
      → (p || not q) ≡ false → IsWrongAnswer log a → ⊥
  right_by true q ep eq e wrong = absurd cc
  right_by false true ep eq e wrong =
      ⊎_elim (λ past. absurd (let h = ep in grind (arith, nat_tests)))
      (λ other. other (same_items a.item found eq)) wrong
  right_by false false ep eq e wrong = absurd cc

-- so many answers are wrong as the test says
pub wrong_counted : (log : List Update) (answers : List Answer)
    → Counts (IsWrongAnswer log) answers (count_by (is_wrong_answer log) answers)
wrong_counted log answers =
    counts_of (IsWrongAnswer log) (is_wrong_answer log)
    (λ a e. wrong_by log a _ _ refl refl e) (λ a e. right_by log a _ _ refl refl e) answers

not_wrong : (log : List Update) (a : Answer) → IsFoundIn log a → IsWrongAnswer log a → ⊥
not_wrong log a found wrong = ⊎_elim
    (λ past. absurd (let few = found.0 in omega (arith, past, few))) (λ other. other found.1) wrong

none_in_list : (log : List Update) (answers : List Answer) → All (IsFoundIn log) answers
    → Counts (IsWrongAnswer log) answers 0
none_in_list log [] all = refl
none_in_list log (a ∷ more) all =
    inl (
      not_wrong log a (all 0 a (omega arith)),
      none_in_list log more (λ k d l. all (suc k) d (omega (arith, l))),
    )

-- of answers that are found in the log none is wrong
pub none_wrong : (log : List Update) (answers : List (Vec Answer)) → EachIsFoundIn log answers
    → Counts (IsWrongAnswer log) (entries answers) 0
none_wrong log [] all = refl
none_wrong log (list ∷ more) all =
    counts_append (IsWrongAnswer log) list.items (entries more) 0 0
    (none_in_list log list.items (all 0 list (omega arith)).0)
    (none_wrong log more (λ k d l. all (suc k) d (omega (arith, l))))

-- so many are wrong as a test of them says, and as 0 says where there was none
pub counted_or_none : (log : List Update) (answers : List (Vec Answer)) (tested : Result ℕ Refusal)
    → IfOk tested (λ n. n ≡ count_by (is_wrong_answer log) (entries answers))
    → EachIsFoundIn log answers
    → Counts (IsWrongAnswer log) (entries answers) (result_unwrap_or tested 0)
counted_or_none log answers (Ok n) is all =
    subst (λ m. Counts (IsWrongAnswer log) (entries answers) m) (sym is)
    (wrong_counted log (entries answers))
counted_or_none log answers (Err e) is all = none_wrong log answers all

-- a count of answers that are referred to
pub count_referred : (p : Answer → Bool) (all : List (Bor Answer))
    → count_by p (answers_at all) ≡ count_by (λ a. p a.now) all
count_referred p [] = refl
count_referred p (a ∷ all) = omega (
  arith,
  count_referred p all,
  sum_by-cons (λ x. cond (p x) 1 0) a.now (answers_at all),
  sum_by-cons (λ (x : Bor Answer). cond (p x.now) 1 0) a all,
)
