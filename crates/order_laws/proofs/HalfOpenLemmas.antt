-- What the order of half open ranges says of a key.
use Rattle.order_laws.proofs.Words.{◌<◌, ◌≡◌, ◌≤◌, List, None, Option, arith, subst, sym, ℕ, IfSome}
use Rattle.order_laws.proofs.Words.{Equal, half_open, IsLook, look, Item}
use Rattle.std.proofs.Common.{Some}
use Rattle.std.proofs.lemmas.Bool.Decides.{nat_tests}
use Rattle.order_laws.proofs.TableLemmas.{look_is}

pub equal_inside : (k : ℕ) (i : Item) → i.a ≤ k → k < i.b → half_open.comp k i ≡ Equal
equal_inside k i le lt = grind (arith, nat_tests)

pub begins : (k : ℕ) (i : Item) → half_open.comp k i ≡ Equal → i.a ≤ k
begins k i e = grind (arith, nat_tests)

pub ends : (k : ℕ) (i : Item) → half_open.comp k i ≡ Equal → k < i.b
ends k i e = grind (arith, nat_tests)

-- an item that is found for a key holds it
pub holds_key : (k : ℕ) (t : List Item) (x : Option Item) → IsLook half_open k t x
    → IfSome x (λ i. (i.a ≤ k) × (k < i.b))
holds_key k t None h = tt
holds_key k t (Some i) h = (begins k i h.1, ends k i h.1)

pub found_holds : (k : ℕ) (t : List Item) (x : Option Item) → x ≡ look half_open k t
    → IfSome x (λ i. (i.a ≤ k) × (k < i.b))
found_holds k t x e = holds_key k t x (subst (IsLook half_open k t) (sym e) (look_is half_open k t))
