-- What the entries of lines say of each of them.
use Rattle.texts.proofs.Words.{◌≡◌, ◌≢◌, ℕ, zero, suc, ◌+◌, ◌<◌, List, [], ◌∷◌, ◌++◌, get_or}
use Rattle.texts.proofs.Words.{Option, Some, None, Result, Ok, Err, MatchResult, refl, sym, ap, ◌∙◌}
use Rattle.texts.proofs.Words.{subst, arith, All, filter_map, cons_option, entries_after}
use Rattle.texts.proofs.Words.{entries_from, said_by}
use Rattle.texts.specs.declared.said.LineMeaning.{LineMeaning}
use Rattle.texts.specs.declared.said.LineMeaning.TheVariants.{Nothing, One, Bad}
use Rattle.texts.proofs.SaidLemmas.{none_before}
use Rattle.texts.specs.Understood.{entry_by, AreSaidBy, IsFirstBadFrom}

module _ {T : Type 0} (form : List ℕ → Option T) where
  abbrev pub AreEntries : ℕ → List (List ℕ) → Result (List T) ℕ → Type 0
  AreEntries n lines r = MatchResult r (AreSaidBy form lines) (IsFirstBadFrom form n lines)

  module _ (n : ℕ) (line : List ℕ) (lines : List (List ℕ)) where
    all_more : said_by form line ≢ Bad → All (λ line. said_by form line ≢ Bad) lines
        → All (λ line. said_by form line ≢ Bad) (line ∷ lines)
    all_more good all zero d below = good
    all_more good all (suc k) d below = all k d (omega arith)

    entry_is : LineMeaning T → Option T
    entry_is said = elim said [ Nothing ↦ None | One entry ↦ Some entry | Bad ↦ None ]

    one_later : said_by form line ≢ Bad → (number : ℕ) → IsFirstBadFrom form (n + 1) lines number
        → IsFirstBadFrom form n (line ∷ lines) number
    one_later good number (place, is, first) =
        let earlier : (k : ℕ) → k < suc place → said_by form (get_or (line ∷ lines) k []) ≢ Bad =
        before in (
          suc place,
          (omega (arith, is)),
          record { among = omega (arith, first.among); bad = first.bad; before = earlier },
        )
      where
        before : (k : ℕ) → k < suc place → said_by form (get_or (line ∷ lines) k []) ≢ Bad
        before zero below = good
        before (suc k) below = first.before k (omega arith)

    step : LineMeaning T → Result (List T) ℕ
    step said = elim said [
      | Nothing ↦ entries_from form (n + 1) lines
      | One entry ↦ entries_after (entry ∷ []) (entries_from form (n + 1) lines)
      | Bad ↦ Err n
    ]

    with_front : (front : List T) → said_by form line ≢ Bad
        → front ++ filter_map (entry_by form) lines ≡ filter_map (entry_by form) (line ∷ lines)
        → (r : Result (List T) ℕ) → AreEntries (n + 1) lines r
        → AreEntries n (line ∷ lines) (entries_after front r)
    with_front front good is (Ok entries) (all, e) =
        (all_more good all, ap (λ es. front ++ es) e ∙ is)
    with_front front good is (Err number) bad = one_later good number bad

    one_more : AreEntries (n + 1) lines (entries_from form (n + 1) lines) → (said : LineMeaning T)
        → said_by form line ≡ said → AreEntries n (line ∷ lines) (step said)
    unfolding step entry_is
    one_more later Nothing e =
        subst (AreEntries n (line ∷ lines)) (none_before (entries_from form (n + 1) lines))
        (with_front [] (λ bad. cc)
        (ap (λ s. cons_option (entry_is s) (filter_map (entry_by form) lines)) (sym e))
        (entries_from form (n + 1) lines) later)
    one_more later (One entry) e =
        with_front (entry ∷ []) (λ bad. cc)
        (ap (λ s. cons_option (entry_is s) (filter_map (entry_by form) lines)) (sym e))
        (entries_from form (n + 1) lines) later
    one_more later Bad e = (
      zero,
      omega arith,
      record { among = omega arith; bad = e; before = λ k below. absurd (omega arith) },
    )

  pub are_entries : (n : ℕ) (lines : List (List ℕ)) → AreEntries n lines (entries_from form n lines)
  unfolding step
  are_entries n [] = ((λ k d below. absurd (omega arith)), refl)
  are_entries n (line ∷ lines) =
      one_more n line lines (are_entries (n + 1) lines) (said_by form line) refl
