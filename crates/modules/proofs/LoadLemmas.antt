-- Which updates a load, an unload, and the end of a module's start give, and which first addresses
-- they take out.
use Rattle.modules.proofs.Words.{◌≡◌, ℕ, ◌+◌, ◌<◌, ◌≤◌, Bool, true, false, ◌&&◌, ◌||◌, nat_eq, cond}
use Rattle.modules.proofs.Words.{zero, suc, List, [], ◌∷◌, ◌++◌, length, get_or, map, take, drop}
use Rattle.modules.proofs.Words.{drop-cons, Some, None, Ok, Err, Option, Result, refl, sym, ap}
use Rattle.modules.proofs.Words.{subst, ◌∙◌, inr, ⊎_elim, arith, add-one, bytes_decides, list_any}
use Rattle.modules.proofs.Words.{option_map_or, rules, common_steps, nat_tests, length-append}
use Rattle.modules.proofs.Words.{bytes_eq}
use Rattle.modules.proofs.Lemmas.{and_parts, eqb-true, not-true, or_cases, or_left, or_right}
use Rattle.modules.proofs.Lemmas.{eq-eqb, length-map, and_by_second, or_by_first, or_by_second}
use Rattle.modules.proofs.Lemmas.{eqb-one_false, eqb-one_more, cases_lt, append-nil, length-take-le}
use Rattle.modules.proofs.Lemmas.{get_or-append_seam, take-length}
use Rattle.modules.proofs.Definitions.{Update, Batch, Item, Refusal, OutOfMemory, UnknownModule}
use Rattle.modules.proofs.Definitions.{ModuleEntry, GivesOrLacksMemory, GivesSome, TakesMemory}
use Rattle.modules.proofs.Definitions.{drop_init_update, is_erasing, is_inserting, item_of}
use Rattle.modules.proofs.Definitions.{load_update, has_no_items, is_item_of, only_of, same_items}
use Rattle.modules.proofs.Definitions.{unload_update, update_of, is_init, is_of, starts_of, Held}
use Rattle.modules.proofs.Definitions.{Part}

-- ---- the first addresses of the regions, one more at a time

pub starts_more : (core init : Bool) (rs : List (ℕ × ℕ)) (ps : List Part) (i : ℕ) (r : ℕ × ℕ)
    (p : Part) → i < length rs → i < length ps
    → starts_of core init (take (i + 1) rs) (take (i + 1) ps) ≡ starts_of core init (take i rs)
    (take i ps) ++ cond (is_of core init (get_or ps i p)) ((get_or rs i r).0 ∷ []) []
starts_more core init (x ∷ xs) (y ∷ ys) zero r p lt lp = refl
starts_more core init (x ∷ xs) (y ∷ ys) (suc i) r p lt lp =
    grind (arith, add-one, starts_more core init xs ys i r p (omega arith) (omega arith))
starts_more core init _ _ i r p lt lp = absurd (omega arith)

-- ---- the items of regions

pub items_from : (number : ℕ) (rs : List (ℕ × ℕ)) (is : List Item) → same_items number rs is ≡ true
    → map (item_of number) rs ≡ is
items_from number [] [] h = refl
items_from number (r ∷ rs) (i ∷ is) h =
    grind (arith, common_steps, nat_tests, and_parts, eqb-true, items_from number rs is)
items_from number _ _ h = absurd (cc)

pub items_same : (number : ℕ) (rs : List (ℕ × ℕ))
    → same_items number rs (map (item_of number) rs) ≡ true
items_same number [] = refl
items_same number (r ∷ rs) =
    rw (eq-eqb r.0 r.0 refl, eq-eqb r.1 r.1 refl, eq-eqb number number refl) (items_same number rs)

-- ---- the items of regions, one after the other

pub same_here : (number : ℕ) (rs : List (ℕ × ℕ)) (is : List Item) (n : ℕ) (r : ℕ × ℕ) (i : Item)
    → n < length rs → n < length is
    → same_items number (drop n rs) (drop n is) ≡ (is_item_of number (get_or rs n r) (get_or is n i)
    && same_items number (drop (suc n) rs) (drop (suc n) is))
same_here number rs is n r i lt less = grind (arith, drop-cons)

pub same_end : (number : ℕ) (rs : List (ℕ × ℕ)) (is : List Item) (n : ℕ) → length rs ≤ n
    → length is ≤ n → same_items number (drop n rs) (drop n is) ≡ true
same_end number rs is n le less = grind (arith, common_steps, nat_tests)

pub other_length : (number : ℕ) (rs : List (ℕ × ℕ)) (is : List Item) → (length rs ≡ length is → ⊥)
    → false ≡ same_items number rs is
other_length number [] [] other = absurd (other refl)
other_length number (r ∷ rs) (i ∷ is) other =
    grind (arith, common_steps, nat_tests, other_length number rs is)
other_length number _ _ other = refl

-- ---- the updates

none_from : {A : Type 0} (xs : List A) → has_no_items xs ≡ true → xs ≡ []
none_from xs h = grind arith

insert_batch : (items : List Item) → nat_eq (length items) 1 ≡ false
    → update_of [] items ≡ Batch [] items
insert_batch items h = grind arith

pub erase_batch : (starts : List ℕ) → only_of starts ≡ None → update_of starts [] ≡ Batch starts []
erase_batch starts h = grind arith

pub erasing_from : (starts : List ℕ) (u : Update) → is_erasing starts u ≡ true
    → update_of starts [] ≡ u
erasing_from starts u h = grind (arith, bytes_decides, and_parts, not-true, none_from)

erasing_self : (starts : List ℕ) → is_erasing starts (update_of starts []) ≡ true
erasing_self starts = grind (arith, bytes_decides, eqb-one_more)

pub erasing_of : (starts : List ℕ) (u : Update) → update_of starts [] ≡ u
    → is_erasing starts u ≡ true
erasing_of starts u h = subst (λ (v : Update). is_erasing starts v ≡ true) h (erasing_self starts)

pub inserting_from : (number : ℕ) (rs : List (ℕ × ℕ)) (u : Update) → is_inserting number rs u ≡ true
    → update_of [] (map (item_of number) rs) ≡ u
inserting_from number rs u h =
    grind (arith, items_from, and_parts, insert_batch, length-map, not-true, none_from)

inserting_self : (number : ℕ) (rs : List (ℕ × ℕ))
    → is_inserting number rs (update_of [] (map (item_of number) rs)) ≡ true
inserting_self number rs = grind (arith, common_steps, nat_tests, items_same, eqb-one_more)

pub inserting_of : (number : ℕ) (rs : List (ℕ × ℕ)) (u : Update)
    → update_of [] (map (item_of number) rs) ≡ u → is_inserting number rs u ≡ true
inserting_of number rs u h =
    subst (λ (v : Update). is_inserting number rs v ≡ true) h (inserting_self number rs)

-- ---- what is given for some answer of what is held

chosen : (b : Bool) (e : Refusal) (v u : Update) → cond b (Err e) (Ok v) ≡ Ok u → v ≡ u
chosen b e v u h = grind arith

chosen_not : (b : Bool) (e : Refusal) (v u : Update) → cond b (Ok v) (Err e) ≡ Ok u → v ≡ u
chosen_not b e v u h = grind arith

abbrev pub asked : (Held → ModuleEntry → Result Update Refusal) → Option ModuleEntry → Held
    → Result Update Refusal
asked f o held = option_map_or (f held) o (Err UnknownModule)

pub load_from : (number : ℕ) (m : ModuleEntry) (u : Update) → is_inserting number m.regions u ≡ true
    → GivesSome (asked (load_update number) (Some m)) u
load_from number m u h = (
  record { core = false; init = false },
  ap (λ (v : Update). Ok v) (inserting_from number m.regions u h),
)

pub load_to : (number : ℕ) (m : ModuleEntry) (u : Update)
    → GivesSome (asked (load_update number) (Some m)) u → is_inserting number m.regions u ≡ true
load_to number m u g = inserting_of number m.regions u
    (chosen g.0.core _ (update_of [] (map (item_of number) m.regions)) u g.1)

pub unload_from : (m : ModuleEntry) (u : Update)
    → (is_erasing (starts_of true false m.regions m.parts) u
    || is_erasing (starts_of true true m.regions m.parts) u) ≡ true
    → GivesSome (asked unload_update (Some m)) u
unload_from m u h =
    ⊎_elim
    (λ without. (
      record { core = true; init = false },
      ap (λ (v : Update). Ok v) (erasing_from (starts_of true false m.regions m.parts) u without),
    ))
    (λ with_init. (
      record { core = true; init = true },
      ap (λ (v : Update). Ok v) (erasing_from (starts_of true true m.regions m.parts) u with_init),
    ))
    (or_cases (is_erasing (starts_of true false m.regions m.parts) u)
    (is_erasing (starts_of true true m.regions m.parts) u) h)

by_init : (m : ModuleEntry) (u : Update) (init : Bool)
    → is_erasing (starts_of true init m.regions m.parts) u ≡ true
    → (is_erasing (starts_of true false m.regions m.parts) u
    || is_erasing (starts_of true true m.regions m.parts) u) ≡ true
by_init m u init h = grind (arith, or_right, or_left)

pub unload_to : (m : ModuleEntry) (u : Update) → GivesSome (asked unload_update (Some m)) u
    → (is_erasing (starts_of true false m.regions m.parts) u
    || is_erasing (starts_of true true m.regions m.parts) u) ≡ true
unload_to m u g = by_init m u g.0.init (erasing_of (starts_of true g.0.init m.regions m.parts) u
    (chosen_not g.0.core _ (update_of (starts_of true g.0.init m.regions m.parts) []) u g.1))

pub drop_from : (m : ModuleEntry) (u : Update)
    → (list_any is_init m.parts && is_erasing (starts_of false true m.regions m.parts) u) ≡ true
    → GivesSome (asked drop_init_update (Some m)) u
drop_from m u h =
    let parts = and_parts (list_any is_init m.parts)
    (is_erasing (starts_of false true m.regions m.parts) u) h in (
      record { core = true; init = true },
      rw parts.0 (ap (λ (v : Update). Ok v)
          (erasing_from (starts_of false true m.regions m.parts) u parts.1)),
    )

-- ---- the answers of the catalog

abbrev pub Answers : Bool → (Held → Result Update Refusal) → Update → Type 0
Answers r f u = (r ≡ true → GivesSome f u) × (GivesSome f u → r ≡ true)

pub load_answers : (number : ℕ) (o : Option ModuleEntry) (m : ModuleEntry) (u : Update) (r : Bool)
    → Some m ≡ o → r ≡ is_inserting number m.regions u → Answers r (asked (load_update number) o) u
load_answers number o m u r at is = grind (arith, load_from, load_to)

unload_answers : (o : Option ModuleEntry) (m : ModuleEntry) (u : Update) (r : Bool) → Some m ≡ o
    → r ≡ (is_erasing (starts_of true false m.regions m.parts) u
    || is_erasing (starts_of true true m.regions m.parts) u) → Answers r (asked unload_update o) u
unload_answers o m u r at is = grind (arith, unload_from, unload_to)

pub unload_answers_first : (o : Option ModuleEntry) (m : ModuleEntry) (u : Update) (r : Bool)
    → Some m ≡ o → r ≡ is_erasing (starts_of true false m.regions m.parts) u → r ≡ true
    → Answers r (asked unload_update o) u
unload_answers_first o m u r at is holds =
    unload_answers o m u r at (or_by_first r (is_erasing (starts_of true false m.regions m.parts) u)
    (is_erasing (starts_of true true m.regions m.parts) u) is holds)

pub unload_answers_second : (o : Option ModuleEntry) (m : ModuleEntry) (u : Update) (s r : Bool)
    → Some m ≡ o → s ≡ is_erasing (starts_of true false m.regions m.parts) u → s ≡ false
    → r ≡ is_erasing (starts_of true true m.regions m.parts) u → Answers r (asked unload_update o) u
unload_answers_second o m u s r at first fails second = unload_answers o m u r at
    (or_by_second s r (is_erasing (starts_of true false m.regions m.parts) u)
    (is_erasing (starts_of true true m.regions m.parts) u) first fails second)

pub drop_answers : (o : Option ModuleEntry) (m : ModuleEntry) (u : Update) (s r : Bool) → Some m ≡ o
    → s ≡ list_any is_init m.parts → s ≡ true → r
    ≡ is_erasing (starts_of false true m.regions m.parts) u → Answers r (asked drop_init_update o) u
drop_answers o m u s r at has holds is = search (rules, and_by_second, drop_from)

-- ---- several regions put in

batch_of : (number : ℕ) (rs : List (ℕ × ℕ)) → (length rs ≡ 1 → ⊥)
    → update_of [] (map (item_of number) rs) ≡ Batch [] (map (item_of number) rs)
batch_of number rs several = insert_batch (map (item_of number) rs)
    (ap (λ n. nat_eq n 1) (length-map rs (item_of number)) ∙ eqb-one_false (length rs) several)

pub many_given : (number : ℕ) (rs : List (ℕ × ℕ)) (erase : List ℕ) (insert : List Item)
    → (length rs ≡ 1 → ⊥) → erase ≡ [] → insert ≡ map (item_of number) rs
    → GivesOrLacksMemory (Ok (update_of [] (map (item_of number) rs))) (Ok (Batch erase insert))
many_given number rs erase insert several none is = grind (arith, batch_of)

pub many_lacks : (number : ℕ) (rs : List (ℕ × ℕ)) (r : Result Update Refusal) → (length rs ≡ 1 → ⊥)
    → r ≡ Err OutOfMemory → GivesOrLacksMemory (Ok (update_of [] (map (item_of number) rs))) r
many_lacks number rs r several lacks =
    inr (lacks, subst (λ (u : Update). TakesMemory (Ok u)) (sym (batch_of number rs several)) tt)

-- the update takes out what one of the two would
pub ruleset unload_either = (unload_answers_first, unload_answers_second)

-- one item more
pub ruleset one_item_more = (add-one, other_length, same_here, same_end)

module _ (core init : Bool) (rs : List (ℕ × ℕ)) (ps : List Part) (i : ℕ) (r : ℕ × ℕ) (p : Part)
    (lt : i < length rs) (lp : i < length ps) where
  pub wanted_more : is_of core init (get_or ps i p) ≡ true
      → starts_of core init (take (i + 1) rs) (take (i + 1) ps)
      ≡ starts_of core init (take i rs) (take i ps) ++ (get_or rs i r).0 ∷ []
  wanted_more is = starts_more core init rs ps i r p lt lp ∙ ap
      (λ b. starts_of core init (take i rs) (take i ps) ++ cond b ((get_or rs i r).0 ∷ []) []) is

  pub other_more : is_of core init (get_or ps i p) ≡ false
      → starts_of core init (take (i + 1) rs) (take (i + 1) ps)
      ≡ starts_of core init (take i rs) (take i ps)
  other_more is = starts_more core init rs ps i r p lt lp ∙ ap
      (λ b. starts_of core init (take i rs) (take i ps) ++ cond b ((get_or rs i r).0 ∷ []) []) is
      ∙ append-nil (starts_of core init (take i rs) (take i ps))

-- all first addresses are those before a place, that of the place, and those after it
pub starts_split : (core init : Bool) (rs : List (ℕ × ℕ)) (ps : List Part) (i : ℕ) (r : ℕ × ℕ)
    (p : Part) → i < length rs → i < length ps → is_of core init (get_or ps i p) ≡ true
    → starts_of core init rs ps ≡ starts_of core init (take i rs) (take i ps) ++ (get_or rs i r).0
    ∷ starts_of core init (drop (suc i) rs) (drop (suc i) ps)
starts_split core init (x ∷ xs) (y ∷ ys) zero r p lt lp is = rw is refl
starts_split core init (x ∷ xs) (y ∷ ys) (suc i) r p lt lp is =
    grind (arith, starts_split core init xs ys i r p (omega arith) (omega arith) is)
starts_split core init _ _ i r p lt lp is = absurd (omega arith)

-- words that begin with the first addresses so far, and have another one next or none, are not all
pub other_words : (words starts more : List ℕ) (start count : ℕ) → starts ≡ take count words
    → count ≤ length words → (count < length words → (d : ℕ) → get_or words count d ≡ start → ⊥)
    → bytes_eq (starts ++ start ∷ more) words ≡ false
other_words words starts more start count is bound other = grind (
  arith,
  bytes_decides (starts ++ start ∷ more) words,
  length-take-le count words bound,
  length-append starts (start ∷ more),
  get_or-append_seam starts start more 0,
)

pub all_words : (words starts : List ℕ) (count : ℕ) → starts ≡ take count words
    → count ≤ length words → nat_eq count (length words) ≡ bytes_eq starts words
all_words words starts count is bound =
    grind (arith, eqb-true, bytes_decides, length-take-le, take-length, eq-eqb, cases_lt)
