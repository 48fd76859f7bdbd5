-- What is there at a moment once what was gone by an earlier one is left out.
use Rattle.std.proofs.Common.{◌≡◌, ℕ, suc, zero, length, min, slice_get, slice_index_or, ◌+◌, ◌-◌}
use Rattle.std.proofs.Common.{◌^◌, ◌<◌, ◌≤◌, nat_le, Bool, true, false, not, ◌&&◌, cond, List, []}
use Rattle.std.proofs.Common.{◌∷◌, Option, Some, None, refl, sym, ap, ◌∙◌, arith, ◌⊎◌, ⊎_elim, All}
use Rattle.std.proofs.lemmas.Bool.{le-leb, leb-true}
use borrow.Author.Tests.{ltb-true}
use Rattle.std.proofs.lemmas.List.Elements.{All-cons, All-filter}
use Rattle.std.specs.Prelude.{filter, find, is_err, is_ok, if◌then◌else◌, nat_lt, Err, Ok, Result}
use Rattle.follower.specs.declared.catalogs.Moment.{Moment}
use Rattle.follower.specs.declared.catalogs.Moment.TheVariants.{Generation, Stamp}
use Rattle.follower.specs.declared.noted.DatedCode.{DatedCode}
use Rattle.follower.specs.declared.noted.NotedTime.{NotedTime}
use Rattle.follower.specs.Catalogs.{at_number, number_of}
use Rattle.follower.specs.Code.{CodeEntry, LiesWithin, has_address}
use Rattle.follower.specs.Noted.{AreSameFrom, is_gone_by, is_noted_by, is_there, noted_at}
use Rattle.follower.specs.Noted.{without_gone}

-- there is one at each place
pub some_at : (codes : List DatedCode) (place : ℕ) → place < length codes
    → (d : DatedCode) × (slice_get codes place ≡ Some d)
some_at [] place within = absurd (omega arith)
some_at (d ∷ ds) zero within = (d, refl)
some_at (d ∷ ds) (suc place) within = some_at ds place (omega arith)

-- what was noted by a moment was so by a later one
noted_later : (m : Moment) (t : NotedTime) (later : ℕ) → number_of m ≤ later
    → is_noted_by m t ≡ true → is_noted_by (at_number m later) t ≡ true
noted_later (Generation g) t later le is =
    le-leb (t.previous + 1) later (let h = leb-true (t.previous + 1) g is in omega arith)
noted_later (Stamp s) t later le is =
    le-leb t.since later (let h = leb-true t.since s is in omega arith)

gone_later : (m : Moment) (gone : Option NotedTime) (d : DatedCode) (later : ℕ) → d.gone ≡ gone
    → number_of m ≤ later → is_gone_by m d ≡ true → is_gone_by (at_number m later) d ≡ true
gone_later m None d later e le is = absurd (let h = rw e at is in cc)
gone_later m (Some t) d later e le is = rw e (noted_later m t later le (rw e at is))

-- what is gone is not there
not_there : (a g h : Bool) → g ≡ true → (a && not g && h) ≡ false
not_there true g h e = rw e refl
not_there false g h e = refl

-- a search passes over what it does not find anyway
find_kept : {X : Type 0} (p keep : X → Bool) → ((x : X) → keep x ≡ false → p x ≡ false)
    → (xs : List X) → find p (filter keep xs) ≡ find p xs
find_kept p keep passes [] = refl
find_kept p keep passes (x ∷ xs) = by_test (keep x) refl (find_kept p keep passes xs)
  where
    by_test : (b : Bool) → keep x ≡ b → find p (filter keep xs) ≡ find p xs
        → find p (cond b (x ∷ filter keep xs) (filter keep xs)) ≡ cond (p x) (Some x) (find p xs)
    by_test true e rest = ap (λ r. cond (p x) (Some x) r) rest
    by_test false e rest = rest ∙ sym (ap (λ b. cond b (Some x) (find p xs)) (passes x e))

-- without what was gone each later moment has the same code
pub same_without_gone : (m : Moment) (codes : List DatedCode)
    → AreSameFrom m codes (without_gone m codes)
unfolding noted_at
same_without_gone m codes later addr le =
    find_kept (is_there (at_number m later) addr) (λ (d : DatedCode). not (is_gone_by m d))
    (λ d e. passes d (kept (is_gone_by m d) e)) codes
  where
    kept : (b : Bool) → not b ≡ false → b ≡ true
    kept true e = refl
    kept false e = sym e

    passes : (d : DatedCode) → is_gone_by m d ≡ true → is_there (at_number m later) addr d ≡ false
    passes d gone =
        not_there (is_noted_by (at_number m later) d.begun) (is_gone_by (at_number m later) d)
        (has_address addr d.code)
        (gone_later m d.gone d later refl le gone)

-- no code is there of an address that lies outside of all
pub none_there : (lo hi : ℕ) (codes : List DatedCode)
    → All (λ (d : DatedCode). LiesWithin lo hi d.code) codes → (m : Moment) (addr : ℕ)
    → addr < 2 ^ 64 → (addr < lo) ⊎ (hi < addr) → noted_at codes m addr ≡ None
unfolding noted_at
none_there lo hi [] all m addr fits out = refl
none_there lo hi (d ∷ ds) all m addr fits out =
    ap (λ b. cond b (Some d) (find (is_there m addr) ds)) (not_here (has_address addr d.code) refl)
    ∙ none_there lo hi ds (λ k e lt. all (suc k) e (omega arith)) m addr fits out
  where
    last_false : (a g : Bool) → (a && g && false) ≡ false
    last_false true true = refl
    last_false true false = refl
    last_false false g = refl

    not_here : (b : Bool) → has_address addr d.code ≡ b → is_there m addr d ≡ false
    not_here false e = rw e (last_false (is_noted_by m d.begun) (not (is_gone_by m d)))
    not_here true e = let h = all 0 d (omega arith) addr fits e in
        absurd
        (⊎_elim (λ below. omega (arith, h.0, below)) (λ above. omega (arith, h.1, above)) out)

-- what is left of code lies where all of it does
pub rest_within : (lo hi : ℕ) (keep : DatedCode → Bool) (codes : List DatedCode)
    → All (λ (d : DatedCode). LiesWithin lo hi d.code) codes
    → All (λ (d : DatedCode). LiesWithin lo hi d.code) (filter keep codes)
rest_within lo hi keep codes all =
    All-filter keep (λ (d : DatedCode). LiesWithin lo hi d.code) codes all

-- wider bounds have it, too
lies_wider : (lo hi lo' hi' : ℕ) (code : CodeEntry) → lo' ≤ lo → hi ≤ hi' → LiesWithin lo hi code
    → LiesWithin lo' hi' code
lies_wider lo hi lo' hi' code below above lies addr fits has = let h = lies addr fits has in
    (omega (arith, h.0, below), omega (arith, h.1, above))

lies_here : (lo hi : ℕ) (code : CodeEntry) → lo ≤ code.start
    → min (code.start + code.len) 18446744073709551615 ≤ hi → LiesWithin lo hi code
lies_here lo hi code below above addr fits has =
    let start : code.start ≤ addr = leb-true code.start addr
    (first (nat_le code.start addr) (nat_lt (addr - code.start) code.len) has) in
    let inside : addr - code.start < code.len = ltb-true (addr - code.start) code.len
    (second (nat_le code.start addr) (nat_lt (addr - code.start) code.len) has) in
    (omega arith, omega arith)
  where
    first : (a b : Bool) → (a && b) ≡ true → a ≡ true
    first true b e = refl
    first false b e = e

    second : (a b : Bool) → (a && b) ≡ true → b ≡ true
    second true b e = e
    second false b e = absurd (let h : false ≡ true = e in cc)

pub one_more_within : (lo hi lo' hi' : ℕ) (d : DatedCode) (codes : List DatedCode) → lo' ≤ lo
    → hi ≤ hi' → lo' ≤ d.code.start → min (d.code.start + d.code.len) 18446744073709551615 ≤ hi'
    → All (λ (e : DatedCode). LiesWithin lo hi e.code) codes
    → All (λ (e : DatedCode). LiesWithin lo' hi' e.code) (d ∷ codes)
one_more_within lo hi lo' hi' d codes below above starts ends all =
    All-cons (λ (e : DatedCode). LiesWithin lo' hi' e.code) d codes
    (lies_here lo' hi' d.code starts ends)
    (λ k e lt. lies_wider lo hi lo' hi' (slice_index_or codes k e).code below above (all k e lt))

-- what a call that was not refused gives
pub given : {X Y Z : Type 0} (r : Result X Y) (a b : Z) → is_err r ≡ false
    → (if is_ok r then a else b) ≡ a
given (Ok x) a b e = refl
given (Err y) a b e = absurd (let h : true ≡ false = e in cc)
