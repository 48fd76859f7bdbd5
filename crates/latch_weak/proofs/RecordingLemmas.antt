-- What a writer has made, after one more deed.
use Rattle.latch_weak.proofs.Words.{◌≡◌, ℕ, ◌≤◌, List, [], ◌∷◌, ◌++◌, length, Some, None, refl, sym}
use Rattle.latch_weak.proofs.Words.{◌∙◌, ap, subst, append_assoc, append-nil, Result, Ok, Err}
use Rattle.latch_weak.proofs.Words.{IfErr, IsErrAnd, slice_get, Order, Store, Update, most_steps}
use Rattle.latch_weak.proofs.Words.{PendingUpdate, Latch, IsWriterStep, latch_after_step}
use Rattle.latch_weak.proofs.Words.{latch_with_update, next_store, why_refused, writer_after_step}
use Rattle.latch_weak.proofs.Words.{RefusesAsRepresented, MayBeNext, StoresNext, HasBegun}
use Rattle.latch_weak.proofs.Words.{latch_refusal, Deed, Begins, Stores, Works, stores_of}
use Rattle.latch_weak.proofs.Words.{updates_of, WorksTo, HasMade, writer_after_all, CarriesOut}
use Rattle.latch_weak.proofs.Words.{CarriesOutAll}
use Rattle.std.specs.Prelude.{drop}
use Rattle.order_laws.specs.declared.refusals.Refusal.{Refusal}
use Rattle.latch_core.specs.WriterViews.{WriterView}

-- deeds that lead somewhere are lawful
pub works_of : {K : Type 0} (o : Order K) (n limit : ℕ) (l l' : Latch) (deeds : List Deed)
    → WorksTo o n limit l deeds l' → Works o n limit l deeds
works_of o n limit l l' [] to = tt
works_of o n limit l l' (Begins u left ∷ rest) to =
    (to.0, to.1, to.2, works_of o n limit (latch_with_update o l u left) l' rest to.3)
works_of o n limit l l' (Stores s ∷ rest) (h, pending, may, on) =
    (h, pending, may, works_of o n limit (latch_after_step l h s) l' rest on)

-- deeds after deeds
works_append : {K : Type 0} (o : Order K) (n limit : ℕ) (l m l' : Latch) (ds es : List Deed)
    → WorksTo o n limit l ds m → WorksTo o n limit m es l' → WorksTo o n limit l (ds ++ es) l'
works_append o n limit l m l' [] es to on = subst (λ x. WorksTo o n limit x es l') to on
works_append o n limit l m l' (Begins u left ∷ ds) es to on =
    (to.0, to.1, to.2, works_append o n limit (latch_with_update o l u left) m l' ds es to.3 on)
works_append o n limit l m l' (Stores s ∷ ds) es (h, pending, step, to) on =
    (h, pending, step, works_append o n limit (latch_after_step l h s) m l' ds es to on)

updates_append : (ds es : List Deed) → updates_of (ds ++ es) ≡ updates_of ds ++ updates_of es
updates_append [] es = refl
updates_append (Begins u left ∷ ds) es = ap (λ us. u ∷ us) (updates_append ds es)
updates_append (Stores s ∷ ds) es = updates_append ds es

stores_append : (ds es : List Deed) → stores_of (ds ++ es) ≡ stores_of ds ++ stores_of es
stores_append [] es = refl
stores_append (Begins u left ∷ ds) es = stores_append ds es
stores_append (Stores s ∷ ds) es = ap (λ ss. s ∷ ss) (stores_append ds es)

module _ {K : Type 0} (o : Order K) (n limit start : ℕ) (us : List Update) (ss : List Store)
    (w w' : WriterView) (made : HasMade o n limit start us ss w) where
  -- an update has begun
  pub made_begun : (u : Update) → why_refused o w u ≡ None → RefusesAsRepresented o w u
      → HasBegun o w u w' → w'.capacity ≡ w.capacity → w'.limit ≡ w.limit
      → HasMade o n limit start (us ++ u ∷ []) ss w'
  made_begun u accepted pictured begun capacity most =
      let may : latch_refusal o w.capacity w.limit made.latch u ≡ None =
      pictured made.latch made.pictures ∙ accepted in
      let here : latch_refusal o n limit made.latch u ≡ None =
      ap (λ x. latch_refusal o x limit made.latch u) (sym made.capacity)
      ∙ ap (λ x. latch_refusal o w.capacity x made.latch u) (sym made.limit_is) ∙ may in
      let left : ℕ = length w'.stores_left in
      let few : left ≤ most_steps n u =
      subst (λ x. left ≤ most_steps x u) made.capacity begun.few in
      record {
        latch = latch_with_update o made.latch u left;
        deeds = made.deeds ++ Begins u left ∷ [];
        works = works_append o n limit _ made.latch _ made.deeds (Begins u left ∷ []) made.works
            (here, begun.some, few, refl);
        updates_are = updates_append made.deeds (Begins u left ∷ [])
            ∙ ap (λ vs. vs ++ u ∷ []) made.updates_are;
        stores_are = stores_append made.deeds (Begins u left ∷ [])
            ∙ append-nil (stores_of made.deeds) ∙ made.stores_are;
        pictures = begun.pictures made.latch made.pictures;
        capacity = capacity ∙ made.capacity;
        limit_is = most ∙ made.limit_is;
      }

  -- a store was made
  pub made_stored : (s : Store) → next_store w ≡ Some s → MayBeNext w (Some s) → StoresNext w w'
      → w'.capacity ≡ w.capacity → w'.limit ≡ w.limit
      → HasMade o n limit start us (ss ++ s ∷ []) w'
  made_stored s next may stores capacity most =
      let step = may made.latch made.pictures in
      let h : PendingUpdate = step.0 in
      let here : IsWriterStep n made.latch h s =
      subst (λ x. IsWriterStep x made.latch h s) made.capacity step.2 in
      record {
        latch = latch_after_step made.latch h s;
        deeds = made.deeds ++ Stores s ∷ [];
        works = works_append o n limit _ made.latch _ made.deeds (Stores s ∷ []) made.works
            (h, step.1, here, refl);
        updates_are = updates_append made.deeds (Stores s ∷ []) ∙ append-nil (updates_of made.deeds)
            ∙ made.updates_are;
        stores_are =
            stores_append made.deeds (Stores s ∷ []) ∙ ap (λ ts. ts ++ s ∷ []) made.stores_are;
        pictures = stores made.latch h s made.pictures step.1 next;
        capacity = capacity ∙ made.capacity;
        limit_is = most ∙ made.limit_is;
      }

-- a refusal that is passed on
pub passed_on : {T : Type 0} (r : Result T Refusal) (fault : Refusal) (P : Refusal → Type 0)
    → IsErrAnd r (λ f. f ≡ fault) → P fault → IfErr r P
passed_on (Ok x) fault P is p = tt
passed_on (Err f) fault P is p = subst P (sym is) p

-- one store more
after_one_more : (w : WriterView) (ss : List Store) (s : Store)
    → writer_after_all w (ss ++ s ∷ []) ≡ writer_after_step (writer_after_all w ss) s
after_one_more w [] s = refl
after_one_more w (t ∷ ss) s = after_one_more (writer_after_step w t) ss s

first_of : (ss : List Store) (s : Store) → slice_get ss 0 ≡ Some s → ss ≡ s ∷ drop 1 ss
first_of [] s e = absurd (cc)
first_of (t ∷ ss) s e = let same : t ≡ s = cc in ap (λ x. x ∷ ss) same

none_left : (ss : List Store) → slice_get ss 0 ≡ None → ss ≡ []
none_left [] e = refl
none_left (t ∷ ss) e = absurd (cc)

-- the core has begun an update at the one view, has made these stores of those that it then had
-- left, and is now at the other
pub record IsCarryingOut {K : Type 0} (o : Order K) (w : WriterView) (u : Update)
    (made : List Store) (now : WriterView) : Type 0 where
  pub begun : WriterView
  pub begins : HasBegun o w u begun
  pub left : begun.stores_left ≡ made ++ now.stores_left
  pub after : now ≡ writer_after_all begun made

-- an update has begun; one of its stores is made; all are
pub carrying_begun : {K : Type 0} (o : Order K) (w : WriterView) (u : Update) (b : WriterView)
    → HasBegun o w u b → IsCarryingOut o w u [] b
carrying_begun o w u b begins = record { begun = b; begins = begins; left = refl; after = refl }

pub carrying_stored : {K : Type 0} (o : Order K) (w : WriterView) (u : Update) (made : List Store)
    (now new : WriterView) (s : Store) → IsCarryingOut o w u made now
    → next_store now ≡ Some s → new ≡ writer_after_step now s
    → IsCarryingOut o w u (made ++ s ∷ []) new
carrying_stored o w u made now new s h next stepped = record {
  begun = h.begun;
  begins = h.begins;
  left = h.left ∙ ap (λ ss. made ++ ss) (first_of now.stores_left s next)
      ∙ sym (append_assoc made (s ∷ []) (drop 1 now.stores_left))
      ∙ ap (λ (x : WriterView). (made ++ s ∷ []) ++ x.stores_left) (sym stepped);
  after = stepped ∙ ap (λ x. writer_after_step x s) h.after ∙ sym (after_one_more h.begun made s);
}

pub carried : {K : Type 0} (o : Order K) (w : WriterView) (u : Update) (made : List Store)
    (now : WriterView) → IsCarryingOut o w u made now → next_store now ≡ None
    → CarriesOut o w u made now
carried o w u made now h none =
    let all : h.begun.stores_left ≡ made =
    h.left ∙ ap (λ ss. made ++ ss) (none_left now.stores_left none) ∙ append-nil made in
    record {
      begun = h.begun;
      begins = h.begins;
      made_are = sym all;
      after = h.after ∙ ap (writer_after_all h.begun) (sym all);
    }

-- one update more
pub carried_more : {K : Type 0} (o : Order K) (w m w' : WriterView) (us : List Update) (u : Update)
    (ss made : List Store) → CarriesOutAll o w us ss m → CarriesOut o m u made w'
    → CarriesOutAll o w (us ++ u ∷ []) (ss ++ made) w'
carried_more o w m w' [] u ss made (none, same) one = (
  made,
  [],
  w',
  subst (λ x. CarriesOut o x u made w') same one,
  ap (λ x. x ++ made) none ∙ sym (append-nil made),
  (refl, refl),
)
carried_more o w m w' (v ∷ us) u ss made (first, rest, x, begun, parts, more) one = (
  first,
  rest ++ made,
  x,
  begun,
  ap (λ y. y ++ made) parts ∙ append_assoc first rest made,
  carried_more o x m w' us u rest made more one,
)
