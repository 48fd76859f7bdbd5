use Rattle.shared_lookup.proofs.Words.{◌≡◌, ◌∙◌, ◌++◌, ◌∷◌, [], ℕ, List, length, Some, None, refl}
use Rattle.shared_lookup.proofs.Words.{ap, sym, subst, ⊎_elim, arith, length-append, get_or}
use Rattle.shared_lookup.proofs.Words.{slice_get, get_or_from_slice_get, slice_get-push_cases}
use Rattle.shared_lookup.proofs.Words.{Answered, memory_after, Answer, AreFoundIn, IsAnswerTo}
use Rattle.shared_lookup.proofs.Words.{AreLookedUp, IsLookedUp}
use Rattle.shared_lookup.proofs.FoundLemmas.{found_more}
use Rattle.shared_lookup.proofs.LookedLemmas.{found_last, last_more, looked_more}
use Rattle.shared_lookup.proofs.threads.look_up.Goals as goal

-- an answer more, at the place of its key
answer_more : (reader : ℕ) (keys : List ℕ) (old : List Answer) (new : Answer)
    → ((place key : ℕ) (a : Answer) → slice_get keys place ≡ Some key → slice_get old place ≡ Some a
    → IsAnswerTo reader place key a)
    → new.reader ≡ reader → new.place ≡ length old → new.key ≡ get_or keys (length old) 0
    → (place key : ℕ) (a : Answer) → slice_get keys place ≡ Some key
    → slice_get (old ++ new ∷ []) place ≡ Some a → IsAnswerTo reader place key a
answer_more reader keys old new before er ep ek place key a k h =
    ⊎_elim
    (λ q. before place key a k q.1)
    (λ q.
    let key_is : get_or keys place 0 ≡ key = get_or_from_slice_get keys place key 0 k in
    record {
      reader_is = sym (ap (λ (x : Answer). x.reader) q.1) ∙ er;
      place_is = sym (ap (λ (x : Answer). x.place) q.1) ∙ ep ∙ sym q.0;
      key_is =
          sym (ap (λ (x : Answer). x.key) q.1) ∙ ek ∙ ap (λ i. get_or keys i 0) (sym q.0) ∙ key_is;
    })
    (slice_get-push_cases old new a place h)

pub loop-index-preserved : goal.loop-index-preserved
loop-index-preserved g c =
    let i = c.loop-index.invariant in
    let new : Answer = record {
      reader = c.args.reader;
      place = c.loop-index.index;
      key = get_or c.args.keys.now c.loop-index.index 0;
      generation = c.look_until-item.result.1;
      item = c.look_until-item.result.0;
    } in
    let old = c.loop-index.answers.items in
    let few = i.few in
    let more = c.look_until-item.ensures.more in
    let answers = c.look_until-item.ensures.answers in
    let base = i.reads.1 in
    let known = c.look_until-item.new.seat.knowledge.known in
    let count : c.look_until-item.result.1 ≡ length known = (let counted = answers.counted in
    let same = more.base in omega (arith, counted, same, base)) in
    let (loads, seen, looked) = c.look_until-item.ensures.looked in
    let item = c.look_until-item.result.0 in
    let generation = c.look_until-item.result.1 in
    let items : c.push_reserved.new.self.items ≡ old ++ new ∷ [] = c.push_reserved.ensures.items
    ∙ ap (λ (xs : List Answer). xs ++ new ∷ []) c.reserve.ensures.items in
    record {
      few = ap length items ∙ (let n = length-append old (new ∷ []) in omega (arith, n, few));
      each = λ place key a k h.
          answer_more c.args.reader c.args.keys.now old new i.each refl (sym few)
          (ap (λ i. get_or c.args.keys.now i 0) (sym few)) place key a k
          (subst (λ (xs : List Answer). slice_get xs place ≡ Some a) items h);
      reads = (λ it e. c.look_until-item.ensures.place ∙ i.reads.0 it e, more.base ∙ base);
      found = subst (AreFoundIn known) (sym items) (found_more c.loop-index.seat.knowledge.known
          known old new more.known i.found count answers.found);
      looked =
          subst (λ ss. AreLookedUp None c.push_reserved.new.self.items ss) (sym seen)
          (subst (λ xs. AreLookedUp None xs (c.loop-index.seat.knowledge.seen ++ loads)) (sym items)
          (looked_more None old new c.loop-index.seat.knowledge.seen loads i.looked
          (subst (λ m. IsLookedUp m item generation loads) i.memory looked)));
      memory = c.look_until-item.ensures.memory
          ∙ ap (λ m. memory_after m (Answered item generation)) i.memory
          ∙ sym (last_more None old new) ∙ ap (found_last None) (sym items);
    }
