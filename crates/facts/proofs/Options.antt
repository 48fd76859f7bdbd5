-- Facts about options and results alone.
use Rattle.facts.proofs.Words.{◌∙◌, ◌≡◌, ◌≢◌, Bool, Err, IfOk, List, None, Ok, Option, Some, ap}
use Rattle.facts.proofs.Words.{cond, false, refl, subst, sym, true, ℕ, IfNone, IfSome, IsSome}
use Rattle.facts.proofs.Words.{OnErr, is_some, bytes_decides, pointwise, same_text, option_copied}
use Rattle.facts.proofs.Words.{option_eq, option_map_or, bytes_eq, false_from_ne_true}
use Rattle.std.proofs.Common.{Result}
use Rattle.std.specs.Prelude.{nat_eq, option_map}
use Rattle.std.specs.Borrow.{Bor}
use Rattle.std.proofs.Common.{arith}
use Rattle.std.proofs.lemmas.Bool.Decides.{nat_tests}

pub None-from_is_none : {X : Type 0} (x : Option X) → is_some x ≡ false → x ≡ None
None-from_is_none None e = refl
None-from_is_none (Some x) e = absurd (cc)

pub IsSome-from_ne : {X : Type 0} {o : Option X} → (o ≡ None → ⊥) → IsSome o
IsSome-from_ne {o = None} h = absurd (h refl)
IsSome-from_ne {o = Some x} h = refl

pub Some_ne_None : {A : Type 0} (x : A) → Some x ≡ None → ⊥
Some_ne_None x h = cc

pub cond-is_some : {A : Type 0} (o : Option A) → o ≡ cond (is_some o) o None
cond-is_some None = refl
cond-is_some (Some x) = refl

-- a choice between two that are nothing is nothing
pub cond-None : {C : Type 0} → (b : Bool) (x y : Option C) → x ≡ None → y ≡ None → cond b x y ≡ None
cond-None true x y p q = p
cond-None false x y p q = q

pub cond-Some_true : {X : Type 0} (b : Bool) (v a : X) → cond b (Some v) None ≡ Some a → b ≡ true
cond-Some_true true v a e = refl
cond-Some_true false v a e = absurd (cc)

-- a pair is there where its parts are
pub Some-from_parts : {A B : Type 0} (o : Option (A × B)) (name : A) (rows : B)
    → Some name ≡ option_map (λ p. p.0) o → Some rows ≡ option_map (λ p. p.1) o
    → o ≡ Some (name, rows)
Some-from_parts None name rows e f = absurd (cc)
Some-from_parts (Some p) name rows e f = grind (arith, nat_tests)

pub option_copied-same : (m n : Option (Bor (List ℕ)))
    → option_eq (λ x y. pointwise nat_eq x.now y.now) m n ≡ true → option_copied m ≡ option_copied n
option_copied-same None None same = refl
option_copied-same None (Some o) same = cc
option_copied-same (Some o) None same = cc
option_copied-same (Some o) (Some p) same = ap Some (same_text o.now p.now (sym same))

-- a name is not equal to two that differ
pub bytes_eq-one_name : (o : Option (List ℕ)) (m n : List ℕ) → m ≢ n
    → option_map_or (λ name. bytes_eq name m) o false ≡ true
    → option_map_or (λ name. bytes_eq name n) o false ≡ false
bytes_eq-one_name None m n differ h = refl
bytes_eq-one_name (Some name) m n differ h = false_from_ne_true (bytes_eq name n)
    (λ same. differ (sym ((bytes_decides name m).0 h) ∙ (bytes_decides name n).0 same))

-- what holds anyhow holds after a failure
pub OnErr-from : {T E : Type 0} (r : Result T E) {P : Type 0} → P → OnErr r P
OnErr-from (Ok x) p = tt
OnErr-from (Err e) p = p

-- what holds where a call succeeded that did
pub IfOk-Ok : {A B E : Type 0} (P : Type 0) (first : Result A E) (a : A) (last : Result B E)
    → first ≡ Ok a → IfOk first (λ _. P) → IfOk last (λ _. P)
IfOk-Ok {A} {B} {E} P first a (Ok b) is holds = subst (λ r. IfOk r (λ _. P)) is holds
IfOk-Ok {A} {B} {E} P first a (Err e) is holds = tt

-- a weaker fact of what a call returned
pub IfSome-weaker : {T E : Type 0} (r : Result (Option T) E) (P Q : T → Type 0)
    → ((x : T) → P x → Q x) → IfOk r (λ o. IfSome o P) → IfOk r (λ o. IfSome o Q)
IfSome-weaker (Ok (Some x)) P Q f h = f x h
IfSome-weaker (Ok None) P Q f h = tt
IfSome-weaker (Err e) P Q f h = tt

pub IfNone-weaker : {T E : Type 0} (r : Result (Option T) E) (P Q : Type 0) → (P → Q)
    → IfOk r (λ o. IfNone o P) → IfOk r (λ o. IfNone o Q)
IfNone-weaker (Ok (Some x)) P Q f h = tt
IfNone-weaker (Ok None) P Q f h = f h
IfNone-weaker (Err e) P Q f h = tt
