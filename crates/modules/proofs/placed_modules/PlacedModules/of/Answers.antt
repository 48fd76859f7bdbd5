use Rattle.modules.proofs.Words.{◌≡◌, ℕ, ◌<◌, false, List, length, take, get_or, ap, sym, ◌∙◌}
use Rattle.modules.proofs.Words.{arith, bytes_decides, list_any, bytes_eq}
use Rattle.modules.proofs.Lemmas.{false_from_ne_true, get_or-map, get_or-take, length-map}
use Rattle.modules.proofs.Lemmas.{length-take-le, list_any_none}
use Rattle.modules.proofs.Definitions.{names_of, AreDistinctNames, PlacedModule}
use Rattle.modules.proofs.placed_modules.PlacedModules.of.Goals as goal

abbrev name_of : PlacedModule → List ℕ
name_of m = m.name

-- of modules with distinct names, none has the name of one after it
new_at : (modules : List PlacedModule) (i : ℕ) (m : PlacedModule)
    → AreDistinctNames (names_of modules) → i < length modules → m ≡ get_or modules i m
    → list_any (bytes_eq m.name) (names_of (take i modules)) ≡ false
new_at modules i m distinct lt is =
    list_any_none (bytes_eq m.name) (names_of (take i modules)) (λ k d less.
    let many : length (take i modules) ≡ i = length-take-le i modules (omega arith) in
    let before : k < i = omega (arith, length-map (take i modules) name_of) in
    let at : get_or (names_of (take i modules)) k d ≡ (get_or modules k m).name =
    get_or-map name_of (take i modules) k m d (omega arith)
    ∙ ap name_of (get_or-take i modules k m before) in
    false_from_ne_true (bytes_eq m.name (get_or (names_of (take i modules)) k d)) (λ same.
    distinct k i d before (omega (arith, length-map modules name_of))
    (get_or-map name_of modules k m d (omega arith) ∙ sym at
    ∙ sym ((bytes_decides m.name (get_or (names_of (take i modules)) k d)).0 same)
    ∙ ap name_of is ∙ sym (get_or-map name_of modules i m d lt))))

pub push-requires : goal.push-requires
push-requires c =
    ap (λ (x : PlacedModule). list_any (bytes_eq x.name) c.loop-module.names) c.module.view_is
    ∙ ap (list_any (bytes_eq c.module-item.result.name)) c.loop-module.invariant
    ∙ new_at c.args.modules.items c.loop-module.module-index c.module-item.result c.requires
    (rw c.deref-module-items.ensures.value at c.loop-module-test.true)
    (rw c.deref-module-items.ensures.value at c.module-item.is)
