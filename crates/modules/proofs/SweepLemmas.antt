-- What a further piece of a region changes, and what one step of the sweep over marks adds.
use Rattle.modules.proofs.Words.{◌≡◌, ℕ, ◌+◌, ◌-◌, ◌^◌, ◌<◌, ◌≤◌, true, List, length, get_or, ap}
use Rattle.modules.proofs.Words.{sym, subst, ◌∙◌, inl, inr, ⊎_elim, arith, ◌≢◌, ◌⊎◌, ◌↔◌}
use Rattle.modules.proofs.Words.{IsNonDecreasingBy, common_steps, nat_tests, [], ◌∷◌, ◌++◌, Some}
use Rattle.modules.proofs.Words.{refl, All, rules}
use Rattle.modules.proofs.Lemmas.{cases_lt, get_or_default, All-pop, All-push, AllPairs-across}
use Rattle.modules.proofs.Lemmas.{AllPairs-left, Contains-get_or, Contains-head, Contains-push}
use Rattle.modules.proofs.Lemmas.{Contains-append_left, Contains-push_cases, all_pairs_push}
use Rattle.modules.proofs.Definitions.{Item, HoldsFor, GoesOn, IsFirstMark, IsNearestMark}
use Rattle.modules.proofs.Definitions.{IsNextMark, Owns, is_in_page, reach, Mark, AreLaid, Follows}

-- a piece that the items do not go on into
laid_with : (items : List Item) (p : Item) → AreLaid items → p.a < p.b
    → All (λ i. Follows i p) items → AreLaid (items ++ p ∷ [])
laid_with items p laid valid after = search (rules, All-push, all_pairs_push)

front_laid : (items : List Item) (last : Item) → AreLaid (items ++ last ∷ []) → AreLaid items
front_laid items last laid = record {
  valid =
      (All-pop (λ (i : Item). i.a < i.b) (items ++ last ∷ []) items (Some last) refl laid.valid).0;
  follow = AllPairs-left (λ (i j : Item). Follows i j) items (last ∷ []) laid.follow;
}

module _ (init old new : List Item) (last p : Item) (was : old ≡ init ++ last ∷ [])
    (laid : AreLaid old) where
  whole : AreLaid (init ++ last ∷ [])
  whole = subst AreLaid was laid

  pub last_valid : last.a < last.b
  last_valid =
      (All-pop (λ (i : Item). i.a < i.b) (init ++ last ∷ []) init (Some last) refl whole.valid).1

  before_last : All (λ i. Follows i last) init
  before_last =
      λ k d lt. AllPairs-across (λ (i j : Item). Follows i j) init (last ∷ []) (get_or init k d)
      last whole.follow (Contains-get_or init k d lt) (Contains-head last last [] refl)

  -- the piece is put behind the last item
  pub laid_put : new ≡ old ++ p ∷ [] → p.a < p.b → last.b ≤ p.a → (last.b ≡ p.a → last.tag ≢ p.tag)
      → AreLaid new
  laid_put is valid behind longest =
      subst AreLaid (sym is) (laid_with old p laid valid
      (subst (λ (xs : List Item). All (λ i. Follows i p) xs) (sym was)
      (All-push (λ (i : Item). Follows i p) init last
      (λ k d lt. let f = before_last k d lt in
      let e : (get_or init k d).b ≤ last.a = f.apart in
      let g = last_valid in
      record { apart = omega arith; longest = λ same. absurd (omega arith) })
      (record { apart = behind; longest = longest }))))

  -- the last item becomes longer
  module _ (m : Item) (is : new ≡ init ++ m ∷ []) (from : m.a ≡ last.a) (to : m.b ≡ p.b)
      (its : m.tag ≡ last.tag) (on : last.b ≡ p.a) (of : last.tag ≡ p.tag) (valid : p.a < p.b) where
    pub laid_merged : AreLaid new
    laid_merged =
        subst AreLaid (sym is)
        (laid_with init m (front_laid init last whole) (let g = last_valid in omega arith)
        (λ k d lt. let f = before_last k d lt in record {
          apart = subst (λ n. (get_or init k d).b ≤ n) (sym from) f.apart;
          longest = λ same. λ tags. f.longest (same ∙ from) (tags ∙ its);
        }))

-- the address lies in the piece, for this owner
abbrev pub InPiece : Item → ℕ → ℕ → Type 0
InPiece p m x = (p.tag ≡ m) × (p.a ≤ x) × (x < p.b)

pub holds_with : (items : List Item) (p : Item) (m x : ℕ) → HoldsFor (items ++ p ∷ []) m x
    ↔ (HoldsFor items m x ⊎ InPiece p m x)
holds_with items p m x =
    grind (arith, common_steps, Contains-push_cases, Contains-append_left, Contains-push)

-- the longer item holds what the last one held, and the piece
pub holds_merged : (init old new : List Item) (last p m : Item) → old ≡ init ++ last ∷ []
    → new ≡ init ++ m ∷ [] → m.a ≡ last.a → m.b ≡ p.b → m.tag ≡ last.tag → last.b ≡ p.a
    → last.tag ≡ p.tag → last.a < last.b → p.a < p.b → (owner x : ℕ)
    → HoldsFor new owner x ↔ (HoldsFor old owner x ⊎ InPiece p owner x)
holds_merged init old new last p m was is from to its on of valid more owner x =
    grind (arith, common_steps, nat_tests, cases_lt, holds_with)

-- of the marks below a place, this is the first of the greatest address
pub record IsFrom (marks : List Mark) (done : ℕ) (from : Mark) : Type 0 where
  pub place : ℕ
  pub within : place < length marks
  pub listed : get_or marks place from ≡ from
  pub first : (k : ℕ) (d : Mark) → k < place → (get_or marks k d).addr < from.addr
  pub greatest : (k : ℕ) (d : Mark) → k < done → k < length marks
      → (get_or marks k d).addr ≤ from.addr

-- the marks from a place on lie at or above an address
abbrev pub AreAbove : List Mark → ℕ → ℕ → Type 0
AreAbove marks done next =
    (k : ℕ) (d : Mark) → done ≤ k → k < length marks → next ≤ (get_or marks k d).addr

-- ---- the nearest mark

pub nearest_from : (marks : List Mark) (done : ℕ) (from : Mark) (next x : ℕ)
    → IsFrom marks done from → AreAbove marks done next → from.addr ≤ x → x < next
    → IsNearestMark marks x from
nearest_from marks done from next x is rest le lt = grind (arith, cases_lt)

address_at : (marks : List Mark) (l : Mark) (p : IsFirstMark marks l)
    → (get_or marks p.place l).addr ≡ l.addr
address_at marks l p = ap (λ (s : Mark). s.addr) p.listed

-- there is one
pub nearest_is_one : (marks : List Mark) (x : ℕ) (l n : Mark) → IsNearestMark marks x l
    → IsNearestMark marks x n → l ≡ n
nearest_is_one marks x l n p q = grind (arith, common_steps)

-- the mark at a place is the next of those that lie above the ones before it
next_at : (marks : List Mark) (done : ℕ) (from next : Mark) (x : ℕ) → IsFrom marks done from
    → AreAbove marks done next.addr → done < length marks → get_or marks done next ≡ next
    → from.addr ≤ x → x < next.addr → IsNextMark marks x next
next_at marks done from next x is rest within at le lt = grind (arith, cases_lt)

-- ---- how far a mark's addresses go

-- the address is in the page of the mark, or the mark's addresses go on
abbrev pub IsReached : List Mark → Mark → ℕ → Type 0
IsReached marks m x = (is_in_page m.addr x ≡ true) ⊎ GoesOn marks x m

-- up to the next mark
pub reached_before : (marks : List Mark) (done : ℕ) (from next : Mark) (end : ℕ)
    → IsFrom marks done from → AreAbove marks done next.addr → done < length marks
    → get_or marks done next ≡ next
    → ((x : ℕ) → from.addr ≤ x → x < next.addr → (x < end) ↔ ((is_in_page from.addr x ≡ true)
    ⊎ ((next.owner ≡ from.owner) × (next.addr < from.addr + reach))))
    → (x : ℕ) → from.addr ≤ x → x < next.addr → (x < end) ↔ IsReached marks from x
reached_before marks done from next end is rest within at exact x le lt = grind (
  arith,
  common_steps,
  nat_tests,
  next_at,
  exact x le lt,
  next_at marks done from next x is rest within at le lt,
)

-- no mark lies above the last
pub reached_last : (marks : List Mark) (done : ℕ) (from : Mark) (end : ℕ) → IsFrom marks done from
    → length marks ≤ done
    → ((x : ℕ) → from.addr ≤ x → x < 2 ^ 64 - 1 → (is_in_page from.addr x ≡ true) ↔ (x < end))
    → (x : ℕ) → from.addr ≤ x → x < 2 ^ 64 - 1 → (x < end) ↔ IsReached marks from x
reached_last marks done from end is all exact x le lt = grind (arith, address_at)

-- ---- the items of the addresses so far

-- the items hold the addresses of each owner below a bound
abbrev pub AreExact : List Mark → List Item → ℕ → Type 0
AreExact marks items bound = (m x : ℕ) → HoldsFor items m x ↔ ((x < bound) × Owns marks m x)

-- the addresses from a mark up to an end
abbrev pub Reaches : Mark → ℕ → ℕ → ℕ → Type 0
Reaches from end m x = (from.owner ≢ 0) × (from.owner ≡ m) × (from.addr ≤ x) × (x < end)

-- all marks from a place on lie above the addresses that are added
pub exact_with : (marks : List Mark) (done : ℕ) (from : Mark) (end next : ℕ) (old new : List Item)
    → IsFrom marks done from → AreAbove marks done next → from.addr ≤ next → end ≤ next
    → ((x : ℕ) → from.addr ≤ x → x < next → (x < end) ↔ IsReached marks from x)
    → AreExact marks old from.addr
    → ((m x : ℕ) → HoldsFor new m x ↔ (HoldsFor old m x ⊎ Reaches from end m x))
    → AreExact marks new next
exact_with marks done from end next old new is rest le within reached exact more m x = (
  λ h. ⊎_elim
      (λ before. let (lt, owns) = (exact m x).0 before in (omega arith, owns))
      (λ (some, its, ge, lt).
      let below : x < next = omega arith in (
        below,
        record {
          mark = from;
          nearest = nearest_from marks done from next x is rest ge below;
          its = its;
          reached = (reached x ge below).0 lt;
          some = λ zero. some (its ∙ zero);
        },
      ))
      ((more m x).0 h),
  λ (lt, owns). (more m x).1 (⊎_elim
      (λ before. inl ((exact m x).1 (before, owns)))
      (λ ge.
      let e : owns.mark ≡ from = nearest_is_one marks x owns.mark from owns.nearest
      (nearest_from marks done from next x is rest ge lt) in
      let its : from.owner ≡ m = ap (λ (s : Mark). s.owner) (sym e) ∙ owns.its in
      inr (
        λ zero. owns.some (sym its ∙ zero),
        its,
        ge,
        (reached x ge lt).1 (subst (λ (s : Mark). IsReached marks s x) e owns.reached),
      ))
      (cases_lt x from.addr)),
)

-- no address below the first mark is anyone's
pub exact_none : (marks : List Mark) (items : List Item) (from : Mark)
    → IsNonDecreasingBy (λ l. l.addr) marks → get_or marks 0 from ≡ from → length items ≡ 0
    → AreExact marks items from.addr
exact_none marks items from rising is none m x = (
  λ h. absurd (let (k, lt, at) = h.there in omega arith),
  λ (lt, owns).
      let n = owns.nearest.its in
      let up : (get_or marks 0 owns.mark).addr ≤ (get_or marks n.place owns.mark).addr =
      rising 0 n.place owns.mark (omega arith) n.within in
      let e = address_at marks owns.mark n in
      let f : (get_or marks 0 owns.mark).addr ≡ from.addr = ap (λ (s : Mark). s.addr)
      (get_or_default marks 0 owns.mark from (let w = n.within in omega arith) ∙ is) in
      let b = owns.nearest.below in
      absurd (omega arith),
)

-- ---- the first mark of the greatest address so far

pub from_first : (marks : List Mark) (from : Mark) → 0 < length marks → get_or marks 0 from ≡ from
    → IsFrom marks 0 from
from_first marks from some is = grind arith

-- the next mark lies above
pub from_next : (marks : List Mark) (done : ℕ) (from next : Mark)
    → IsNonDecreasingBy (λ l. l.addr) marks → IsFrom marks done from → done < length marks
    → get_or marks done next ≡ next → from.addr < next.addr → IsFrom marks (done + 1) next
from_next marks done from next rising is within at above = grind (arith, get_or_default)

-- the next mark does not
pub from_same : (marks : List Mark) (done : ℕ) (from next : Mark) → IsFrom marks done from
    → get_or marks done next ≡ next → next.addr ≤ from.addr → IsFrom marks (done + 1) from
from_same marks done from next is at below = grind (arith, get_or_default, cases_lt)

pub is_above : (marks : List Mark) (done : ℕ) (next : Mark) → IsNonDecreasingBy (λ l. l.addr) marks
    → get_or marks done next ≡ next → AreAbove marks done next.addr
is_above marks done next rising at = λ k d le inside.
    let up : (get_or marks done next).addr ≤ (get_or marks k next).addr =
    rising done k next le inside in
    let e : (get_or marks done next).addr ≡ next.addr = ap (λ (s : Mark). s.addr) at in
    let f : (get_or marks k d).addr ≡ (get_or marks k next).addr =
    ap (λ (s : Mark). s.addr) (get_or_default marks k d next inside) in
    omega arith
