-- What a reader loaded for its answers.
use Rattle.shared_lookup.proofs.Words.{◌≡◌, ℕ, List, [], ◌∷◌, ◌++◌, Option, Some, None, refl, sym}
use Rattle.shared_lookup.proofs.Words.{◌∙◌, ap, subst, inl, inr, ⊎_elim, append_assoc, Item}
use Rattle.shared_lookup.proofs.Words.{half_open, Update, Answered, Retry, memory_after, Looked}
use Rattle.shared_lookup.proofs.Words.{ReaderState, Searched, Answer, AreLookedUp, HasLooked}
use Rattle.shared_lookup.proofs.Words.{HasMet, IsLookedUp, seen_by}
use Rattle.std.proofs.Common.{append-nil}
use Rattle.latch_table.specs.declared.knowledge.ReaderKnowledge.{ReaderKnowledge}

-- what was found last of these answers, or before them
abbrev pub found_last : Option (Item × ℕ) → List Answer → Option (Item × ℕ)
found_last before [] = before
found_last before (a ∷ rest) = found_last (memory_after before (Answered a.item a.generation)) rest

pub last_more : (before : Option (Item × ℕ)) (answers : List Answer) (a : Answer)
    → found_last before (answers ++ a ∷ [])
    ≡ memory_after (found_last before answers) (Answered a.item a.generation)
last_more before [] a = refl
last_more before (b ∷ rest) a =
    last_more (memory_after before (Answered b.item b.generation)) rest a

-- one answer more
pub looked_more : (before : Option (Item × ℕ)) (answers : List Answer) (a : Answer)
    (seen loads : List ℕ) → AreLookedUp before answers seen
    → IsLookedUp (found_last before answers) a.item a.generation loads
    → AreLookedUp before (answers ++ a ∷ []) (seen ++ loads)
looked_more before [] a seen loads none one =
    (loads, [], ap (λ ss. ss ++ loads) none ∙ sym (append-nil loads), one, refl)
looked_more before (b ∷ rest) a seen loads (first, more, parts, here, on) one = (
  first,
  more ++ loads,
  ap (λ ss. ss ++ loads) parts ∙ append_assoc first more loads,
  here,
  looked_more (memory_after before (Answered b.item b.generation)) rest a more loads on one,
)

-- an answer at once
pub looked_once : (k : ℕ) (memory : Option (Item × ℕ)) (e e' : ReaderKnowledge) (item : Option Item)
    (g : ℕ) → Looked half_open k memory e e' (Answered item g)
    → (loads : List ℕ) × (e'.seen ≡ e.seen ++ loads) × IsLookedUp memory item g loads
looked_once k memory e e' item g looked =
    ⊎_elim
    (λ (r, is, recalled).
    let s = recalled.sequence in
    let item_is : item ≡ Some r.0 = cc in
    let generation_is : g ≡ r.1 = cc in
    let pair : Some r ≡ Some (r.0, g) = ap (λ n. Some (r.0, n)) (sym generation_is) in (
      s ∷ [],
      recalled.seen,
      (
        s,
        sym recalled.recalled.1 ∙ sym generation_is,
        inr (refl, (r.0, item_is, recalled.recalled.0 ∙ pair)),
      ),
    ))
    (λ (first, pre, recalled, (s, seen, is, more, tried, answers)).
    (s ∷ s ∷ [], seen, (s, is, inl ([], refl, tt))))
    looked

-- two sequences that differ, some more, and one twice
abbrev retried : ℕ → ℕ → ℕ → List ℕ → List ℕ
retried s t u more = (s ∷ t ∷ more) ++ u ∷ u ∷ []

-- an answer after an attempt without one
pub looked_again : (k : ℕ) (memory : Option (Item × ℕ)) (e m e' : ReaderKnowledge)
    (r : Option Item × ℕ) → Looked half_open k memory e m Retry → Searched half_open k m e' r
    → (loads : List ℕ) × (e'.seen ≡ e.seen ++ loads) × IsLookedUp memory r.0 r.1 loads
looked_again k memory e m e' r looked (more, u, seen, is, rest, tried, answers, retries) =
    ⊎_elim
    (λ (x, is, recalled). absurd (cc))
    (λ (first, pre, recalled, (s, t, began, differ, others, tried_once, floored)).
    let joined : e'.seen ≡ e.seen ++ retried s t u more =
    seen ∙ ap (λ ss. (ss ++ more) ++ u ∷ u ∷ []) began
    ∙ ap (λ ss. ss ++ u ∷ u ∷ []) (append_assoc e.seen (s ∷ t ∷ []) more)
    ∙ append_assoc e.seen (s ∷ t ∷ more) (u ∷ u ∷ []) in
    (retried s t u more, joined, (u, is, inl (s ∷ t ∷ more, refl, (differ, retries)))))
    looked

-- without a load there is no answer
not_without : (memory : Option (Item × ℕ)) (item : Option Item) (g : ℕ) (loads : List ℕ)
    → IsLookedUp memory item g loads → loads ≡ [] → ⊥
not_without memory item g loads (s, is, how) none =
    ⊎_elim
    (λ (more, all, retries). (let n : more ++ s ∷ s ∷ [] ≡ [] = sym all ∙ none in not_nil more n))
    (λ (all, x). (let n : s ∷ [] ≡ [] = sym all ∙ none in absurd (cc))) how
  where
    not_nil : (more : List ℕ) → more ++ s ∷ s ∷ [] ≡ [] → ⊥
    not_nil [] e = absurd (cc)
    not_nil (x ∷ xs) e = absurd (cc)

no_answer : (answers : List Answer) → AreLookedUp None answers [] → answers ≡ []
no_answer [] looked = refl
no_answer (a ∷ rest) ([], more, parts, here, on) =
    absurd (not_without None a.item a.generation [] here refl)
no_answer (a ∷ rest) (x ∷ first, more, parts, here, on) = absurd (cc)

-- what a reader has loaded once it has met the writer
pub looked_met : (log : List Update) (answers : List Answer) (seat back : Option ReaderState)
    → AreLookedUp None answers (seen_by seat) → HasMet log seat back → HasLooked log answers back
looked_met log answers None back looked met =
    subst (HasLooked log answers) (sym met) (no_answer answers looked)
looked_met log answers (Some r) back looked (r', is, (s, seen, known, more, floored)) =
    subst (HasLooked log answers) (sym is) (r.knowledge.seen, s, seen, known, looked)
