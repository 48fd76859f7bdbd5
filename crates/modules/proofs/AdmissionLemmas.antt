-- One more module.
use Rattle.modules.proofs.Words.{◌≡◌, ℕ, ◌+◌, Bool, true, false, ◌&&◌, List, [], ◌∷◌, ◌++◌, length}
use Rattle.modules.proofs.Words.{refl, sym, arith, length-append, add-one, take, drop, drop-cons}
use Rattle.modules.proofs.Words.{get_or, ◌<◌, list_any, list_all, bytes_eq, common_steps, nat_tests}
use Rattle.modules.proofs.Lemmas.{and_from, and_parts, list_all_more, and_rotate}
use Rattle.modules.proofs.Lemmas.{list_all-each_agree}
use Rattle.modules.proofs.Definitions.{Accepted, after_module, names_of, taken_regions}
use Rattle.modules.proofs.Definitions.{PlacedModule, are_beside, is_apart, lie_apart}
use Rattle.modules.proofs.Definitions.{admission_view, IsAdmission, Admission}
use Rattle.modules.proofs.SoundnessLemmas.{turned}

pub after_double : (a : Accepted) (m : PlacedModule)
    → list_any (bytes_eq m.name) (names_of a.modules) ≡ true
    → after_module a m ≡ record a { double = a.double + 1 }
after_double a m h = rw h

pub after_overlap : (a : Accepted) (m : PlacedModule)
    → list_any (bytes_eq m.name) (names_of a.modules) ≡ false
    → (lie_apart m.regions && are_beside (taken_regions a) m.regions) ≡ false
    → after_module a m ≡ record a { overlap = a.overlap + 1 }
after_overlap a m h k = rw (h, k)

pub after_accepted : (a : Accepted) (m : PlacedModule)
    → list_any (bytes_eq m.name) (names_of a.modules) ≡ false
    → (lie_apart m.regions && are_beside (taken_regions a) m.regions) ≡ true
    → after_module a m ≡ record a { modules = a.modules ++ m ∷ [] }
after_accepted a m h k = rw (h, k)

-- how many lines were gone through
abbrev pub total : Accepted → ℕ
total a = a.double + a.overlap + length a.modules

pub total-after_module : (a : Accepted) (m : PlacedModule) → total (after_module a m) ≡ total a + 1
total-after_module a m = grind (arith, length-append)

pub free_in : (a : Admission) → IsAdmission a → (regions : List (ℕ × ℕ))
    → are_beside (taken_regions (admission_view a)) regions ≡ are_beside a.taken regions
free_in a tied regions =
    sym (list_all-each_agree is_apart a.taken (taken_regions (admission_view a)) regions tied.free)

-- the regions that are taken once a module was accepted
pub IsTied-accepted : (a : Admission) (m : PlacedModule) → IsAdmission a → (n : Admission)
    → admission_view n
    ≡ record (admission_view a) { modules = (admission_view a).modules ++ m ∷ [] }
    → ((p : ℕ × ℕ → Bool) → list_all p n.taken ≡ (list_all p a.taken && list_all p m.regions))
    → IsAdmission n
IsTied-accepted a m tied n shows regions = grind (arith, common_steps, nat_tests)

-- ---- the regions of a module, taken one after the other

beside_next : (now next : List (ℕ × ℕ)) (r : ℕ × ℕ) (rs : List (ℕ × ℕ))
    → ((p : ℕ × ℕ → Bool) → list_all p next ≡ (p r && list_all p now))
    → list_all (is_apart r) rs ≡ true → are_beside now rs ≡ true → are_beside next rs ≡ true
beside_next now next r [] more apart beside = refl
beside_next now next r (x ∷ xs) more apart beside = grind
    (arith, common_steps, nat_tests, and_parts, and_from, turned, beside_next now next r xs more)

pub record IsTaking (old now : List (ℕ × ℕ)) (i : ℕ) (rs : List (ℕ × ℕ)) : Type 0 where
  pub apart : lie_apart (drop i rs) ≡ true
  pub beside : are_beside now (drop i rs) ≡ true
  pub all : (p : ℕ × ℕ → Bool) → list_all p now ≡ (list_all p old && list_all p (take i rs))

pub taking : (old now next : List (ℕ × ℕ)) (i : ℕ) (rs : List (ℕ × ℕ)) (d : ℕ × ℕ) → i < length rs
    → IsTaking old now i rs
    → ((p : ℕ × ℕ → Bool) → list_all p next ≡ (p (get_or rs i d) && list_all p now))
    → IsTaking old next (i + 1) rs
taking old now next i rs d lt before more = grind (
  arith,
  common_steps,
  nat_tests,
  add-one,
  drop-cons,
  and_parts,
  beside_next,
  and_rotate,
  list_all_more,
  drop-cons rs i d lt,
)

-- what becomes of a line
pub ruleset after_line = (after_double, after_overlap, after_accepted, free_in, IsTied-accepted)
