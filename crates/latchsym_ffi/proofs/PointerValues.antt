-- The machine values of a ContentPointer. Assumes `Logic`.
use Rattle.latchsym_ffi.proofs.Walking.{Al, Goal, Good, IsSome, Item, Laws, List, Logic, None}
use Rattle.latchsym_ffi.proofs.Walking.{Option, Ptr, RattleType, RawPtr, Seq, Slot, Some, Step, T}
use Rattle.latchsym_ffi.proofs.Walking.{Ura, Val, Valss, WT, [], and_tt, block_ptr, box_owns, dict}
use Rattle.latchsym_ffi.proofs.Walking.{dnil, drop, feq_i, feq_l, fjoin, fpack, fpick, fsplit, fst∗}
use Rattle.latchsym_ffi.proofs.Walking.{ghosts, handle_tells, has_ty, impl, in_a_block, layout}
use Rattle.latchsym_ffi.proofs.Walking.{lone, move, never, nothing, null_ptr, of_list, plain}
use Rattle.latchsym_ffi.proofs.Walking.{ptr_val, refl, rewrite, sem, shape, step, subst, tnil, to}
use Rattle.latchsym_ffi.proofs.Walking.{true, vnull, vptr, vstruct, within, ‵, ℕ, ◌$◌, ◌&&◌, ◌++◌}
use Rattle.latchsym_ffi.proofs.Walking.{◌∷◌, ◌≡◌}
use mir.Raw.{raw as bare}
use Rattle.latchsym_ffi.proofs.Words.{owns_content}
use Rattle.std_heap.specs.contracts.Global as Heap
use Rattle.std_heap.proofs.Global.TheLaws as heap
use Rattle.latchsym_ffi.proofs.LooseValues.{both}
use Rattle.latchsym_ffi.specs.contracts.loose.Loose as Loose
use Rattle.latchsym_ffi.specs.contracts.contents.Content as Content
use Rattle.latchsym_ffi.specs.contracts.pointers.ContentPointer as Pointer

abbrev pub R : RattleType
R = Content.the_row

abbrev pub Z : RattleType
Z = Heap.the_row

abbrev pub LZ : Laws Z
LZ = heap.the_row_laws

abbrev pub al : Al
al = record { row = Z; laws = LZ; g = ghosts; d = dict; drops = impl [] tnil dnil }

abbrev pub FromLoose : Slot 0
FromLoose = plain (λ _. Loose.the_row R Z ghosts)

abbrev pub FromGlobal : Slot 0
FromGlobal = plain (λ _. Z)

abbrev pub FromPointer : Slot 0
FromPointer = plain (λ _. Pointer.the_row)

abbrev pub P : RattleType
P = Pointer.the_row

-- a pointer to content, and one to none
abbrev pub kept : ℕ → ℕ → Z.Denot → R.Denot → P.Denot
kept b o a x = record { at = block_ptr b o; alloc = a; content = Some x }

abbrev pub empty : Z.Denot → P.Denot
empty a = record { at = null_ptr; alloc = a; content = None }

-- what is there
pub content_of : (o : Option R.Denot) → IsSome o → (x : R.Denot) × (o ≡ Some x)
content_of None e = absurd (cc)
content_of (Some x) e = (x, refl)

pub good : (u : Val) (wt : WT u) (h : Val) → Good (layout Z) h
    → T (has_ty (layout Z) h && true) × WT (both u h)
good u wt h fits = (and_tt (has_ty (layout Z) h) fits.0, (wt, (fits.1, tt)))

module _ {M : Type 1} {𝓤 : Ura M} {𝓛 : Logic 𝓤} {K : Type 0} {Γ : List (Item 𝓤)}
    {G : Goal 𝓤 𝓛.H} where
  pub pointer_out : K → (d : P.Denot) (vs : List Val) (x : R.Denot) → d.content ≡ Some x
      → ((b o : ℕ) (h : Val) → d.at ≡ block_ptr b o → vs ≡ both (vptr b o) h ∷ [] → Good (layout Z)
      h → Seq K 𝓛 (‵ (box_owns (ghosts.dealloc_token d.alloc) R (block_ptr b o) x)
      ∷ ‵ (Z.own_val d.alloc (h ∷ [])) ∷ Γ) G)
      → Seq K 𝓛 (‵ (P.own_val d vs) ∷ Γ) G
  pointer_out t d vs x is k =
      fsplit t $ fpick t
      (λ vss. fsplit t $ feq_l t (λ ev. fsplit t $ feq_l t (λ ep. fsplit t $ handle_tells al t
      d.alloc vss.1.0 (λ h ea fits. move t (1 ∷ []) $ drop t $ move t (1 ∷ []) $
      rewrite t 0 (λ (y : Option R.Denot). ‵ (owns_content d.alloc d.at y)) is refl $
      in_a_block t d.at (λ p. box_owns (ghosts.dealloc_token d.alloc) R p x)
      (fst∗ 𝓤 (never 𝓤) (sem 𝓛 (ghosts.dealloc_token d.alloc (bare (lone R.mir)) null_ptr)))
      (λ b o e. k b o h e
      (subst (λ (p : Ptr). vs ≡ vstruct (of_list (ptr_val p ∷ h ∷ [])) ∷ []) e
      (subst (λ (ws : List Val). vs ≡ vstruct (of_list (ptr_val d.at ∷ (ws ++ []))) ∷ []) ea
      (subst (λ (ps : List Val). vs ≡ vstruct (of_list (ps ++ (vss.1.0 ++ []))) ∷ []) ep ev)))
      fits)))))

  pub pointer_in : K → (b o : ℕ) (h : Val) (a : Z.Denot) (x : R.Denot)
      → Step K 𝓛 (‵ (P.own_val (kept b o a x) (both (vptr b o) h ∷ [])) ∷ Γ) G
      (‵ (box_owns (ghosts.dealloc_token a) R (block_ptr b o) x) ∷ ‵ (Z.own_val a (h ∷ [])) ∷ Γ)
      G
  pointer_in t b o h a x = step (λ s. let v : Val = both (vptr b o) h in
      nothing t $ move t (2 ∷ 0 ∷ []) $ fjoin t $ feq_i t (List Val) (vptr b o ∷ []) (vptr b o ∷ [])
      refl $ fjoin t $ feq_i t (List Val) (v ∷ []) (v ∷ []) refl $ fjoin t $
      fpack t (Valss (RawPtr ∷ Z ∷ []))
      (within (shape Pointer.the_type) (to Pointer.the_type (kept b o a x)) (v ∷ []))
      (vptr b o ∷ [], (h ∷ [], tt)) $ fjoin t $ s)

  pub empty_in : K → (h : Val) (a : Z.Denot)
      → Step K 𝓛 (‵ (P.own_val (empty a) (both vnull h ∷ [])) ∷ Γ) G (‵ (Z.own_val a (h ∷ [])) ∷ Γ)
      G
  empty_in t h a = step (λ s. let v : Val = both vnull h in
      nothing t $ nothing t $ move t (2 ∷ 0 ∷ []) $ fjoin t $ feq_i t (List Val) (vnull ∷ [])
      (vnull ∷ []) refl $ fjoin t $ feq_i t (List Val) (v ∷ []) (v ∷ []) refl $ fjoin t $
      fpack t (Valss (RawPtr ∷ Z ∷ []))
      (within (shape Pointer.the_type) (to Pointer.the_type (empty a)) (v ∷ []))
      (vnull ∷ [], (h ∷ [], tt)) $ fjoin t $ s)
