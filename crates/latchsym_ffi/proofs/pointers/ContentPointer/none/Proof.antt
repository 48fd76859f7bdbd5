use Rattle.latchsym_ffi.proofs.Walking.{ !, Goes-dropped, Item, List, Stays, Val, WpFn, [], agg}
use Rattle.latchsym_ffi.proofs.Walking.{alloc_all, and_then, by, done, drop, emp, ends_at, ent}
use Rattle.latchsym_ffi.proofs.Walking.{enter, fjoin, free_all, fsep, fsplit, ftrue, get}
use Rattle.latchsym_ffi.proofs.Walking.{handle_tells, join, lit, lit<, look_at, move, no_more}
use Rattle.latchsym_ffi.proofs.Walking.{nothing, pass_all, proved_at, qed, raw, refl, returns, says}
use Rattle.latchsym_ffi.proofs.Walking.{sets, split, stay_dropped, subst, suffices, sym, tables}
use Rattle.latchsym_ffi.proofs.Walking.{type_at, vnull, walk_of, yes, ‵, ◌$◌, ◌++◌, ◌∵◌, ◌∷◌, ◌⊛◌}
use Rattle.latchsym_ffi.proofs.PointerValues.{Z, al, empty, empty_in, good, FromGlobal as From}
use Rattle.latchsym_ffi.proofs.LooseValues.{both}
use Rattle.latchsym_ffi.specs.contracts.pointers.ContentPointer.none as F
use Rattle.latchsym_ffi.specs.contracts.pointers.ContentPointer.none.Key.{name as #self}
use Rattle.latchsym_ffi.proofs.pointers.ContentPointer.none.Statement as stated
use Rattle.latchsym_ffi.proofs.pointers.ContentPointer.none.Code as code

pub none_spec : {M : Type 1} → stated.statement M
none_spec 𝓤 𝓛 𝓜 𝓡 wired =
    let H = 𝓛.H in
    let 𝓣 = tables 𝓤 H 𝓜 𝓡 𝓡.env in
    let c = F.clauses 𝓛 𝓜.mem 𝓡.returns in
    let kept : Stays (F.ended).signature.params (F.ended).kept = (stay_dropped From yes, tt) in
    proved_at 𝓛 F.ended kept c 𝓜 𝓡 (Goes-dropped 𝓛 0 From yes (λ κs x f. refl), tt)
    #self code.function (code.unfolded 𝓤 H 𝓜 𝓡 wired) (λ z _.
    let v = z.0.3.0 in let To = type_at (F.signature).result tt in
    qed 𝓛 ((‵ ftrue ⊛ ‵ (fsep (Z.own_val v z.0.4.0) ftrue)) ∷ raw (emp 𝓤) ∷ []) ∵ split ! $ drop ! $
    fsplit ! $ handle_tells al
    ! v z.0.4.0 (λ hv ws fa. empty_in ! hv v $ move ! (1 ∷ 2 ∷ []) $ drop ! $ drop ! $
    let w = both vnull hv in
    let Γ : List (Item 𝓤) = ‵ (To.own_val (empty v) (w ∷ [])) ∷ [] in
    by ! (subst (λ (us : List Val). ent 𝓤 (types.Kit.⋆ 𝓛 Γ)
    (WpFn 𝓤 H 𝓣.C 𝓣.Λ code.function (us ++ []) ((walk_of 𝓛 F.ended kept c).post z))) (sym ws)
    (qed 𝓛 Γ ∵ enter ! 𝓣.C 𝓣.Λ code.function (hv ∷ []) _ $
    alloc_all ! (λ ls. pass_all ! refl (fa, tt) $
    sets ! (agg ! (and_then ! (lit ! tt) (and_then ! (get ! refl) (no_more !)))) refl
    (good vnull (record { fits = lit< tt }) hv fa) $ returns ! (look_at ! 0 refl) $
    free_all ! refl $
    suffices ! _ (ends_at 𝓛 F.ended kept c z w (empty v) (tt, tt) (tt, tt)) $ says ! refl $
    nothing ! $ nothing ! $ fjoin ! $ join ! $ nothing ! $ join ! $ done !)))))
