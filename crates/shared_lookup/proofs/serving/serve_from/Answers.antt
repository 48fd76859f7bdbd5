use Rattle.shared_lookup.proofs.Words.{◌≡◌, ◌∙◌, List, Option, Some, ap, sym, subst, All, TableId}
use Rattle.shared_lookup.proofs.Words.{Vec, Update, Change, Answer, with_log, LedgerState}
use Rattle.shared_lookup.proofs.Words.{EachHasLooked, IsNewReaderOf, AreAsLong, ChangeOutcome}
use Rattle.shared_lookup.proofs.Words.{EachIsFoundIn, IsWrongCount, EachFollowsLog, AreAllMade}
use Rattle.shared_lookup.proofs.Words.{AreHeard}
use Rattle.shared_lookup.proofs.FollowingLemmas.{made_named, served_now}
use Rattle.shared_lookup.proofs.CountLemmas.{each_as_long}
use Rattle.shared_lookup.proofs.ReaderLemmas.{heard_named, same_some}
use Rattle.shared_lookup.proofs.serving.serve_from.Goals as goal

pub new-shared-requires-clause-table : goal.new-shared-requires-clause-table
new-shared-requires-clause-table g c =
    λ it e. same_some c.args.opened.0.place it (sym c.requires.named.0 ∙ e)

pub new-shared-requires-clause-opened : goal.new-shared-requires-clause-opened
new-shared-requires-clause-opened g c = λ o e.
    ap (with_log c.args.opened.0.log) (same_some c.args.opened.0 o (sym c.requires.named.1 ∙ e))

pub run_threads-requires-clause-beside : goal.run_threads-requires-clause-beside
run_threads-requires-clause-beside g c κs lives =
    λ k d less. c.requires.named.0 ∙ ap (λ (t : TableId). Some t) (sym (c.requires.beside k d less))

pub settle_all-ledger-requires-clause-made : goal.settle_all-ledger-requires-clause-made
settle_all-ledger-requires-clause-made g c =
    let back = c.in_ok-returned in
    let l = c.into_ledger-ledger.result in
    let o = c.args.opened.0 in
    let is = c.into_ledger-ledger.ensures.opened o c.requires.named.1 in
    let there = c.requires.named.0 ∙ ap (λ (t : TableId). Some t)
    (sym (c.into_ledger-ledger.ensures.table o.place c.requires.named.0)) in
    made_named g.K.NamesTable.table g.K.NamesTable.opened l o c.args.c.now c.deref-4.result.now
    back.returned.made.items there c.requires.named.1 is
    (subst (λ cs. AreAllMade g.K.NamesTable.table g.K.NamesTable.opened c.args.c.now cs
    back.returned.made.items) (c.deref-2.ensures.value ∙ sym c.deref-4.ensures.value)
    back.ensures.made)

pub run_threads-requires-clause-seats : goal.run_threads-requires-clause-seats
run_threads-requires-clause-seats g c κs lives =
    subst (λ (t : Option TableId). All (IsNewReaderOf t) c.args.opened.1.items)
    (sym c.requires.named.0) c.requires.seats

pub meet_all-ledger-requires-clause-heard : goal.meet_all-ledger-requires-clause-heard
meet_all-ledger-requires-clause-heard g c =
    let back = c.in_ok-returned in
    let table = g.K.NamesTable.table in
    subst (λ (l : LedgerState). AreHeard (Some l.place) c.deref-5.result.now
    back.returned.heard.items) (sym c.settle_all-ledger.ensures.same)
    (heard_named table c.args.opened.0.place c.into_ledger-ledger.result.place c.deref-5.result.now
    back.returned.heard.items c.requires.named.0 c.into_ledger-ledger.ensures.table
    (subst (λ ks. AreHeard table ks back.returned.heard.items)
    (c.deref-3.ensures.value ∙ sym c.deref-5.ensures.value) back.ensures.heard))

pub returns-clause-found : goal.returns-clause-found
returns-clause-found g c =
    let out = c.meet_all-ledger in
    subst (λ log. EachIsFoundIn log out.result.1.items)
    (ap (λ (l : LedgerState). l.log) (sym out.ensures.same) ∙ sym c.into_log.ensures)
    out.ensures.found

pub returns-clause-looked : goal.returns-clause-looked
returns-clause-looked g c =
    let out = c.meet_all-ledger in
    subst (λ log. EachHasLooked log out.result.1.items out.result.3.items)
    (ap (λ (l : LedgerState). l.log) (sym out.ensures.same) ∙ sym c.into_log.ensures)
    out.ensures.looked

pub returns-clause-follow : goal.returns-clause-follow
returns-clause-follow g c =
    let l = c.into_ledger-ledger.result in
    let o = c.args.opened.0 in
    let same : c.meet_all-ledger.result.0 ≡ l =
    c.meet_all-ledger.ensures.same ∙ c.settle_all-ledger.ensures.same in
    let logged = ap (λ (x : LedgerState). x.log) (sym same) ∙ sym c.into_log.ensures in (
      l,
      served_now c.args.c.now o.log _ l o c.requires.fresh
          (c.into_ledger-ledger.ensures.opened o c.requires.named.1) logged,
      subst (λ (cs : List (Vec Change)).
          EachFollowsLog c.args.c.now l cs c.settle_all-ledger.result.1.items)
          c.deref-4.ensures.value c.settle_all-ledger.ensures.follow,
    )

pub returns-clause-wrong : goal.returns-clause-wrong
returns-clause-wrong g c =
    let catalog = c.args.c.now in
    let outcomes = c.settle_all-ledger.result.1.items in
    let log = c.meet_all-ledger.result.0.log in
    let wrong = c.wrong_count-wrong.result in
    subst (λ (us : List Update). IsWrongCount catalog c.args.changes.items outcomes
    c.meet_all-ledger.result.1.items us wrong) (sym c.into_log.ensures)
    (subst (λ (xs : List (Vec Answer)).
    IsWrongCount catalog c.args.changes.items outcomes xs log wrong) c.deref-8.ensures.value
    (subst (λ (xs : List (Vec ChangeOutcome)). IsWrongCount catalog c.args.changes.items xs
    c.deref-8.result.now log wrong) c.deref-7.ensures.value
    (subst (λ (xs : List (Vec Change)). IsWrongCount catalog xs c.deref-7.result.now
    c.deref-8.result.now log wrong) c.deref-6.ensures.value c.wrong_count-wrong.ensures)))

pub wrong_count-wrong-requires-clause-same : goal.wrong_count-wrong-requires-clause-same
wrong_count-wrong-requires-clause-same g c =
    let made = each_as_long c.args.c.now c.deref-4.result.now c.settle_all-ledger.result.1.items
    c.settle_all-ledger.ensures.outcomes in
    subst (λ xs. AreAsLong xs c.deref-7.result.now)
    (c.deref-4.ensures.value ∙ sym c.deref-6.ensures.value)
    (subst (AreAsLong c.deref-4.result.now) (sym c.deref-7.ensures.value) made)

pub wrong_count-wrong-requires-clause-found : goal.wrong_count-wrong-requires-clause-found
wrong_count-wrong-requires-clause-found g c =
    let out = c.meet_all-ledger in
    subst (λ (l : LedgerState). EachIsFoundIn l.log c.deref-8.result.now) (sym out.ensures.same)
    (subst (λ (xs : List (Vec Answer)). EachIsFoundIn c.settle_all-ledger.result.0.log xs)
    (sym c.deref-8.ensures.value) out.ensures.found)
