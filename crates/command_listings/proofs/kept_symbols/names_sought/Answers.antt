use Rattle.command_listings.proofs.Words.{[], ◌∙◌, map, refl, subst, sym, take, ap, asked_of}
use Rattle.command_listings.proofs.Words.{IsSought}
use Rattle.command_listings.proofs.WordLemmas.{text_more}
use Rattle.command_listings.proofs.SoughtLemmas.{Writes, word_more}
use Rattle.command_listings.proofs.kept_symbols.names_sought.Goals as goal

pub loop-word-init : goal.loop-word-init
loop-word-init c = λ name. rw c.new-sought.ensures.empty refl

pub loop-word-preserved : goal.loop-word-preserved
loop-word-preserved c =
    let words = c.args.words.now in
    let i = c.loop-word.word-index in
    let m = c.loop-word.sought in
    let n = c.insert.new.self in
    let v = c.new.result in
    subst (λ ws. IsSought ws [] n) (sym (text_more words i _ c.loop-word-test.true))
    (word_more (map (λ w. w.now) (take i words)) _ m n v c.new.ensures.items c.loop-word.invariant
    (subst (λ s. Writes s m n v) (c.symbol_asked-name.ensures
    ∙ ap (λ w. (asked_of w).symbol) c.as_bytes.ensures.value) c.in_ok-insert.ensures.updates))
