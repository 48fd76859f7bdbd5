use Rattle.latchsym_ffi.proofs.Walking.{ !, Goes-dropped, Item, List, Ptr, Some, Stays, Val, WpFn}
use Rattle.latchsym_ffi.proofs.Walking.{[], agg, alloc_all, and_then, by, done, drop, emp, ends_at}
use Rattle.latchsym_ffi.proofs.Walking.{ent, enter, fjoin, fld, free_all, fsep, fsplit, ftrue, get}
use Rattle.latchsym_ffi.proofs.Walking.{get_in, ghosts, join, look_at, move, no, no_more, nothing}
use Rattle.latchsym_ffi.proofs.Walking.{of_opd, pass_all, proved_at, qed, raw, refl, returns}
use Rattle.latchsym_ffi.proofs.Walking.{rewrite, says, sets, split, stay_dropped, stop, sub, subst}
use Rattle.latchsym_ffi.proofs.Walking.{suffices, sym, tables, type_at, vptr, walk_of, whole, ‵}
use Rattle.latchsym_ffi.proofs.Walking.{◌$◌, ◌++◌, ◌∵◌, ◌∷◌, ◌⊛◌}
use Rattle.latchsym_ffi.proofs.LooseValues.{both, loose_good, loose_out}
use Rattle.latchsym_ffi.proofs.PointerValues.{R, Z, LZ, P, good, pointer_in, FromLoose as From}
use Rattle.latchsym_ffi.specs.contracts.pointers.ContentPointer.of as F
use Rattle.latchsym_ffi.specs.contracts.pointers.ContentPointer.of.Key.{name as #self}
use Rattle.latchsym_ffi.proofs.pointers.ContentPointer.of.Statement as stated
use Rattle.latchsym_ffi.proofs.pointers.ContentPointer.of.Code as code

pub of_spec : {M : Type 1} → stated.statement M
of_spec 𝓤 𝓛 𝓜 𝓡 wired =
    let H = 𝓛.H in
    let 𝓣 = tables 𝓤 H 𝓜 𝓡 𝓡.env in
    let c = F.clauses 𝓛 𝓜.mem 𝓡.returns in
    let kept : Stays (F.ended).signature.params (F.ended).kept = (stay_dropped From no, tt) in
    proved_at 𝓛 F.ended kept c 𝓜 𝓡 (Goes-dropped 𝓛 0 From no (λ κs x f. refl), tt)
    #self code.function (code.unfolded 𝓤 H 𝓜 𝓡 wired) (λ z _.
    let v = z.0.3.0 in let To = type_at (F.signature).result tt in
    let made : To.Denot = record { at = v.at; alloc = v.alloc; content = Some v.value } in
    qed 𝓛 ((‵ ftrue ⊛ ‵ (fsep ((type_at From tt).own_val v z.0.4.0) ftrue)) ∷ raw (emp 𝓤) ∷ [])
    ∵ split ! $ drop ! $ fsplit ! $
    loose_out R Z LZ ghosts ! v z.0.4.0 (λ b o hv e ws fa. pointer_in ! b o hv v.alloc v.value $
    rewrite ! 0 (λ (p : Ptr). ‵ (P.own_val (record made { at = p }) (both (vptr b o) hv ∷ [])))
    (sym e) refl $ move ! (1 ∷ 2 ∷ []) $ drop ! $ drop ! $
    let w = both (vptr b o) hv in
    let u = both (vptr b o) hv in
    let Γ : List (Item 𝓤) = ‵ (To.own_val made (w ∷ [])) ∷ [] in
    by ! (subst (λ (us : List Val). ent 𝓤 (types.Kit.⋆ 𝓛 Γ)
    (WpFn 𝓤 H 𝓣.C 𝓣.Λ code.function (us ++ []) ((walk_of 𝓛 F.ended kept c).post z))) (sym ws)
    (qed 𝓛 Γ ∵ enter ! 𝓣.C 𝓣.Λ code.function (u ∷ []) _ $
    alloc_all ! (λ ls. pass_all ! refl (loose_good R Z LZ ghosts b o hv fa, tt) $
    sets ! (of_opd ! (get_in ! (fld ! refl (stop !)) (sub ! 0 refl (whole !)))) refl (tt, tt) $
    sets ! (of_opd ! (get_in ! (fld ! refl (stop !)) (sub ! 1 refl (whole !)))) refl fa $
    sets ! (of_opd ! (get ! refl)) refl (tt, tt) $
    sets ! (agg ! (and_then ! (get ! refl) (and_then ! (get ! refl) (no_more !)))) refl
    (good (vptr b o) tt hv fa) $ returns ! (look_at ! 0 refl) $ free_all ! refl $
    suffices ! _ (ends_at 𝓛 F.ended kept c z w made (tt, tt) (tt, tt)) $ says ! refl $
    nothing ! $ nothing ! $ fjoin ! $ join ! $ nothing ! $ join ! $ done !)))))
