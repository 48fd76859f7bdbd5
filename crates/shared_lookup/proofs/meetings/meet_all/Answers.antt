use Rattle.shared_lookup.proofs.Words.{◌≡◌, ◌∙◌, ◌++◌, ◌∷◌, [], Bool, List, length, take, Option}
use Rattle.shared_lookup.proofs.Words.{sym, subst, ap, append_assoc, arith, refl, Some, Vec, IfSome}
use Rattle.shared_lookup.proofs.Words.{into_iter_items, All-push, IsPrefix, Answer, LookupResults}
use Rattle.shared_lookup.proofs.Words.{LedgerState, EachHasLooked, HasMet, known_by, AreFoundIn}
use Rattle.shared_lookup.proofs.Words.{EachIsAnswered, EachIsFoundIn, AreHeard, ReaderState}
use Rattle.shared_lookup.proofs.FoundLemmas.{all_found_later}
use Rattle.shared_lookup.proofs.LookedLemmas.{looked_met}
use Rattle.shared_lookup.proofs.PairedLemmas.{pair_more}
use Rattle.shared_lookup.proofs.ThreadLemmas.{answered_so_far, heard_here, met_here, room_left}
use Rattle.shared_lookup.proofs.meetings.meet_all.Goals as goal

pub met-same-requires : goal.met-same-requires
met-same-requires c =
    let i = c.loop-found.invariant in
    let done = c.loop-found.yielded in
    let rest = into_iter_items c.next.new.self in
    let f = c.in-Some.found in
    let keys = c.args.keys.now in
    let place = c.args.ledger.place in
    let step = c.in-Some.ensures.steps.0 in
    let all : c.args.heard.items ≡ done ++ f ∷ rest =
    i.gone ∙ ap (λ (xs : List LookupResults). done ++ xs) step in
    let heard = subst (AreHeard (Some place) keys) all c.requires.heard in
    subst (λ (l : LedgerState). IfSome f.seat (λ r. r.place ≡ l.place)) (sym i.same)
    (met_here (Some place) keys done rest f heard place refl)

pub loop-found-preserved : goal.loop-found-preserved
loop-found-preserved c =
    let i = c.loop-found.invariant in
    let done = c.loop-found.yielded in
    let rest = into_iter_items c.next.new.self in
    let f = c.in-Some.found in
    let keys = c.args.keys.now in
    let place = c.args.ledger.place in
    let log = c.args.ledger.log in
    let step = c.in-Some.ensures.steps.0 in
    let all : c.args.heard.items ≡ done ++ f ∷ rest =
    i.gone ∙ ap (λ (xs : List LookupResults). done ++ xs) step in
    let heard = subst (AreHeard (Some place) keys) all c.requires.heard in
    let here = heard_here (Some place) keys done rest f heard in
    let known : IsPrefix (known_by f.seat) log = subst
    (λ (l : LedgerState). IsPrefix (known_by f.seat) l.log) i.same c.met-same.ensures.known in
    let answered = answered_so_far (Some place) keys done rest f heard c.loop-found.answers.items
    c.loop-found.ended.items i.answered in
    let found = All-push (λ (list : Vec Answer). AreFoundIn log list.items)
    c.loop-found.answers.items f.answers i.found
    (all_found_later (known_by f.seat) log f.answers.items known here.found) in
    let back = c.met-same.result.1 in
    let met : HasMet log f.seat back =
    subst (λ (l : LedgerState). HasMet l.log f.seat back) i.same c.met-same.ensures.reader in
    let looked = pair_more _ c.loop-found.answers.items c.loop-found.readers.items f.answers back
    i.looked (looked_met log f.answers.items f.seat back here.looked met) in
    record {
      gone = i.gone ∙ ap (λ (xs : List LookupResults). done ++ xs) step
          ∙ sym (append_assoc done (f ∷ []) rest);
      same = c.met-same.ensures.same ∙ i.same;
      answered =
          subst (λ (xs : List (Vec Answer)). EachIsAnswered (take (length (done ++ f ∷ [])) keys) xs
          c.push_reserved-in-loop-found.new.self.items) (sym c.push_reserved.ensures.items)
          (subst (λ (es : List Bool). EachIsAnswered (take (length (done ++ f ∷ [])) keys)
          (c.loop-found.answers.items ++ f.answers ∷ []) es)
          (sym c.push_reserved-in-loop-found.ensures.items) answered);
      found = subst (EachIsFoundIn log) (sym c.push_reserved.ensures.items) found;
      looked =
          subst (λ (xs : List (Vec Answer)). EachHasLooked log xs
          c.push_reserved-in-loop-found-2.new.self.items) (sym c.push_reserved.ensures.items)
          (subst (λ (rs : List (Option ReaderState)).
          EachHasLooked log (c.loop-found.answers.items ++ f.answers ∷ []) rs)
          (sym c.push_reserved-in-loop-found-2.ensures.items) looked);
      back = let l = i.back in
          let k = c.push_reserved-in-loop-found-2.ensures.capacity in
          omega (arith, l, k);
      long = let l = i.long in let k = c.push_reserved.ensures.capacity in omega (arith, l, k);
      told = let l = i.told in
          let k = c.push_reserved-in-loop-found.ensures.capacity in
          omega (arith, l, k);
    }

pub push_reserved-requires : goal.push_reserved-requires
push_reserved-requires c =
    let i = c.loop-found.invariant in
    room_left c.args.keys.now _ c.loop-found.yielded _ _ _ c.loop-found.answers i.gone
    c.in-Some.ensures.steps.0 c.requires.heard.same i.answered.same i.long

pub push_reserved-requires-in-loop-found : goal.push_reserved-requires-in-loop-found
push_reserved-requires-in-loop-found c =
    let i = c.loop-found.invariant in
    room_left c.args.keys.now _ c.loop-found.yielded _ _ _ c.loop-found.ended i.gone
    c.in-Some.ensures.steps.0 c.requires.heard.same i.answered.told i.told

pub push_reserved-requires-in-loop-found-2 : goal.push_reserved-requires-in-loop-found-2
push_reserved-requires-in-loop-found-2 c =
    let i = c.loop-found.invariant in
    room_left c.args.keys.now _ c.loop-found.yielded _ _ _ c.loop-found.readers i.gone
    c.in-Some.ensures.steps.0 c.requires.heard.same (i.looked.same ∙ i.answered.same) i.back
