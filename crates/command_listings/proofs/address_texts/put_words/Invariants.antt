use Rattle.command_listings.proofs.Words.{[], map, take, unwrap_or, Says, words_text, found_by}
use Rattle.command_listings.proofs.address_texts.put_words.Given as goal

-- the lines of the words so far were written
abbrev pub invariant-loop-word : goal.invariant-loop-word
invariant-loop-word g l = Says g.W.Write.contents l.fn.writer l.writer (words_text l.form
    (λ name. unwrap_or (found_by l.sought name) []) (map (λ w. w.now) (take l.word-index l.words)))
