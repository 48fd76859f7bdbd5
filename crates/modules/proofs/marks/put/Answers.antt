use Rattle.modules.proofs.Words.{◌≡◌, ◌≤◌, List, [], ◌∷◌, ◌++◌, subst, sym, ap, ◌∙◌, refl, Contains}
use Rattle.modules.proofs.Words.{All-contains, Contains-push, Item}
use Rattle.modules.proofs.SweepLemmas.{laid_put, laid_merged, last_valid, holds_merged}
use Rattle.modules.proofs.marks.put.Goals as goal
use Rattle.modules.proofs.marks.put.Goals.{then-last-piece+else-last-piece-2, else-last-piece}

pub returns-in_ok-push-in-Some-clause-laid : goal.returns-in_ok-push-in-Some-clause-laid
returns-in_ok-push-in-Some-clause-laid c =
    laid_merged c.pop.new.self.items c.args.items.now.items c.push-in-Some.new.self.items
    c.in-Some.last c.args.piece c.in-Some.ensures.items c.requires.laid
    (record { a = c.in-Some.last.a; b = c.args.piece.b; tag = c.in-Some.last.tag })
    c.in_ok-push-in-Some.ensures.items refl refl refl c.if-last-piece.true
    c.if-last-piece-2.true c.requires.valid

pub returns-in_ok-push-in-Some-clause-holds : goal.returns-in_ok-push-in-Some-clause-holds
returns-in_ok-push-in-Some-clause-holds c =
    let valid = last_valid c.pop.new.self.items c.args.items.now.items c.push-in-Some.new.self.items
    c.in-Some.last c.args.piece c.in-Some.ensures.items c.requires.laid in
    holds_merged c.pop.new.self.items c.args.items.now.items c.push-in-Some.new.self.items
    c.in-Some.last c.args.piece
    (record { a = c.in-Some.last.a; b = c.args.piece.b; tag = c.in-Some.last.tag })
    c.in-Some.ensures.items c.in_ok-push-in-Some.ensures.items refl refl refl
    c.if-last-piece.true c.if-last-piece-2.true valid c.requires.valid

pub returns-in_ok-push-in-Some-2-2-clause-laid : goal.returns-in_ok-push-in-Some-2-2-clause-laid
returns-in_ok-push-in-Some-2-2-clause-laid c =
    let was = c.in-Some.ensures.items in
    let again : c.push-in-Some-2.new.self.items ≡ c.args.items.now.items =
    c.in_ok-push-in-Some-2.ensures.items ∙ sym was in
    let is : c.push-in-Some-2-2.new.self.items ≡ c.args.items.now.items ++ c.args.piece ∷ [] =
    c.in_ok-push-in-Some-2-2.ensures.items
    ∙ ap (λ (xs : List Item). xs ++ c.args.piece ∷ []) again in
    let behind : c.in-Some.last.b ≤ c.args.piece.a =
    All-contains (λ (i : Item). i.b ≤ c.args.piece.a) c.args.items.now.items c.in-Some.last
    c.requires.behind (subst (λ (xs : List Item). Contains xs c.in-Some.last) (sym was)
    (Contains-push c.pop.new.self.items c.in-Some.last)) in
    laid_put c.pop.new.self.items c.args.items.now.items c.push-in-Some-2-2.new.self.items
    c.in-Some.last c.args.piece was c.requires.laid is c.requires.valid behind
    (elim c.if-last-piece.branch [
      | then-last-piece+else-last-piece-2 w ↦ λ same. w.if-last-piece-2.false
      | else-last-piece w ↦ λ same. absurd (w.if-last-piece.false same)
    ])
