use Rattle.latchsym_ffi.proofs.Walking.{ !, Goes-dropped, IsSome, Item, List, Ptr, Stays, Val, WpFn}
use Rattle.latchsym_ffi.proofs.Walking.{[], agg, alloc_all, and_then, block_ptr, by, done, drop}
use Rattle.latchsym_ffi.proofs.Walking.{ends_at, ent, enter, fact, fjoin, fld, free_all, fsep}
use Rattle.latchsym_ffi.proofs.Walking.{fsplit, ftrue, get, get_in, ghosts, heard, id⊢, join}
use Rattle.latchsym_ffi.proofs.Walking.{look_at, move, no_more, nothing, of_opd, pass_all}
use Rattle.latchsym_ffi.proofs.Walking.{proved_at, qed, raw, refl, returns, rewrite, says, sets}
use Rattle.latchsym_ffi.proofs.Walking.{split, stay_dropped, stop, sub, subst, suffices, sym}
use Rattle.latchsym_ffi.proofs.Walking.{tables, type_at, use1, vptr, walk_of, whole, yes, ‵, ◌$◌}
use Rattle.latchsym_ffi.proofs.Walking.{◌++◌, ◌∵◌, ◌∷◌, ◌⊛◌}
use Rattle.latchsym_ffi.proofs.LooseValues.{both, loose_good, loose_in}
use Rattle.latchsym_ffi.proofs.PointerValues.{R, Z, LZ, P, content_of, good, pointer_out}
use Rattle.latchsym_ffi.proofs.PointerValues.{FromPointer as From}
use Rattle.latchsym_ffi.specs.contracts.pointers.ContentPointer.into_loose as F
use Rattle.latchsym_ffi.specs.contracts.pointers.ContentPointer.into_loose.Key.{name as #self}
use Rattle.latchsym_ffi.proofs.pointers.ContentPointer.into_loose.Statement as stated
use Rattle.latchsym_ffi.proofs.pointers.ContentPointer.into_loose.Code as code

pub into_loose_spec : {M : Type 1} → stated.statement M
into_loose_spec 𝓤 𝓛 𝓜 𝓡 wired =
    let H = 𝓛.H in
    let 𝓣 = tables 𝓤 H 𝓜 𝓡 𝓡.env in
    let c = F.clauses 𝓛 𝓜.mem 𝓡.returns in
    let kept : Stays (F.ended).signature.params (F.ended).kept = (stay_dropped From yes, tt) in
    proved_at 𝓛 F.ended kept c 𝓜 𝓡 (Goes-dropped 𝓛 0 From yes (λ κs x f. refl), tt)
    #self code.function (code.unfolded 𝓤 H 𝓜 𝓡 wired) (λ z _.
    let v = z.0.3.0 in let To = type_at (F.signature).result tt in
    qed 𝓛 ((‵ ftrue ⊛ ‵ (fsep (P.own_val v z.0.4.0) ftrue)) ∷ raw (fact 𝓤 (IsSome v.content)) ∷ [])
    ∵ move ! (1 ∷ []) $ heard ! (IsSome v.content)
    (λ given. let some = content_of v.content given in let x = some.0 in let made : To.Denot =
    record { at = v.at; alloc = v.alloc; value = x } in split ! $ drop ! $ fsplit ! $
    pointer_out
    ! v z.0.4.0 x some.1 (λ b o hv e ws fa. loose_in R Z LZ ghosts ! b o hv v.alloc x $ use1 𝓛
    (‵ (To.own_val (record made { at = block_ptr b o }) (both (vptr b o) hv ∷ []))) (id⊢ 𝓤 _) $
    rewrite ! 0 (λ (p : Ptr). ‵ (To.own_val (record made { at = p }) (both (vptr b o) hv ∷ [])))
    (sym e) refl $ move ! (1 ∷ []) $ drop ! $
    let w = both (vptr b o) hv in
    let u = both (vptr b o) hv in
    let Γ : List (Item 𝓤) = ‵ (To.own_val made (w ∷ [])) ∷ [] in
    by ! (subst (λ (us : List Val). ent 𝓤 (types.Kit.⋆ 𝓛 Γ)
    (WpFn 𝓤 H 𝓣.C 𝓣.Λ code.function (us ++ []) ((walk_of 𝓛 F.ended kept c).post z))) (sym ws)
    (qed 𝓛 Γ ∵ enter ! 𝓣.C 𝓣.Λ code.function (u ∷ []) _ $
    alloc_all ! (λ ls. pass_all ! refl (good (vptr b o) tt hv fa, tt) $
    sets ! (of_opd ! (get_in ! (fld ! refl (stop !)) (sub ! 0 refl (whole !)))) refl (tt, tt) $
    sets ! (of_opd ! (get_in ! (fld ! refl (stop !)) (sub ! 1 refl (whole !)))) refl fa $
    sets ! (of_opd ! (get ! refl)) refl (tt, tt) $
    sets ! (agg ! (and_then ! (get ! refl) (and_then ! (get ! refl) (no_more !)))) refl
    (loose_good R Z LZ ghosts b o hv fa) $ returns ! (look_at ! 0 refl) $ free_all ! refl $
    suffices ! _ (ends_at 𝓛 F.ended kept c z w made (tt, tt) (tt, tt)) $ says ! some.1 $
    nothing ! $ nothing ! $ fjoin ! $ join ! $ nothing ! $ join ! $ done !))))))
