-- Lines of modules that go on with those before.
use Rattle.recordings.proofs.Words.{◌≡◌, ◌∙◌, ◌++◌, ◌∷◌, ℕ, List, [], Bool, true, false, Option}
use Rattle.recordings.proofs.Words.{Some, refl, sym, ap, append_assoc, bytes_eq, SomeLines, joined}
use Rattle.recordings.proofs.Words.{joined_if, lines_of_module, Result, Ok, Err, IfOk}
use Rattle.std.proofs.lemmas.Slice.Eq.{bytes_eq-Decides}

goes_on_at : (name name' text line : List ℕ) (more : List SomeLines) → name ≡ name'
    → bytes_eq name name' ≡ true
    → joined (lines_of_module text name') (joined (lines_of_module line name) more)
    ≡ joined (lines_of_module (text ++ line) name') more
goes_on_at name name' text line [] same is = rw is refl
goes_on_at name name' text line (n ∷ more) same is = by (bytes_eq n.name name) refl
  where
    by : (t : Bool) → bytes_eq n.name name ≡ t
        → joined (lines_of_module text name') (joined (lines_of_module line name) (n ∷ more))
        ≡ joined (lines_of_module (text ++ line) name') (n ∷ more)
    by true next =
        rw (next, is, ap (bytes_eq n.name) (sym same) ∙ next, append_assoc text line n.text) refl
    by false next = rw (next, is, ap (bytes_eq n.name) (sym same) ∙ next) refl

pub goes_on : (m : SomeLines) (name line : List ℕ) (more : List SomeLines)
    → bytes_eq name m.name ≡ true
    → joined m (joined (lines_of_module line name) more)
    ≡ joined (lines_of_module (m.text ++ line) m.name) more
goes_on m name line more is =
    goes_on_at name m.name m.text line more ((bytes_eq-Decides name m.name).0 is) is

pub begins : (m : SomeLines) (name line : List ℕ) (more : List SomeLines)
    → bytes_eq name m.name ≡ false
    → joined m (joined (lines_of_module line name) more)
    ≡ m ∷ joined (lines_of_module line name) more
begins m name line [] other = rw other refl
begins m name line (n ∷ more) other = by (bytes_eq n.name name) refl
  where
    by : (t : Bool) → bytes_eq n.name name ≡ t
        → joined m (joined (lines_of_module line name) (n ∷ more))
        ≡ m ∷ joined (lines_of_module line name) (n ∷ more)
    by true next = rw (next, other) refl
    by false next = rw (next, other) refl

pub goes_on_if : {E : Type 0} (before : List SomeLines) (m : SomeLines) (name line : List ℕ)
    (last : Option SomeLines) (r : Result SomeLines E) → last ≡ Some m → bytes_eq name m.name ≡ true
    → IfOk r (λ next. next ≡ lines_of_module (m.text ++ line) m.name)
    → IfOk r (λ next. (more : List SomeLines) → before
    ++ joined_if last (joined (lines_of_module line name) more) ≡ before ++ joined next more)
goes_on_if before m name line last (Ok next) is same with = λ more.
    ap (λ (l : Option SomeLines). before ++ joined_if l (joined (lines_of_module line name) more))
    is
    ∙ ap (λ (l : List SomeLines). before ++ l)
    (goes_on m name line more same ∙ ap (λ (n : SomeLines). joined n more) (sym with))
goes_on_if before m name line last (Err e) is same with = tt
