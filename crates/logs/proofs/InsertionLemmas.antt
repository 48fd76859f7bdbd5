-- A line in which a text is inserted.
use Rattle.logs.proofs.Definitions.{◌≡◌, ◌∙◌, ◌+◌, ℕ, List, ap, sym, ◌∷◌, ◌++◌, Some, refl}
use Rattle.logs.proofs.Definitions.{append_assoc, Answering, AddressWord, LogContext, address_at}
use Rattle.logs.proofs.Definitions.{is_closer, owed, run_of, taken_among, taken_at, words_behind}
use Rattle.logs.proofs.Definitions.{annotated_from}
use Rattle.std.proofs.Common.{drop}
use Rattle.logs.specs.AnnotatedLogs.{place_after}
use Rattle.logs.specs.OwnNames.{as_read, insertion, text_for}
use Rattle.logs.specs.Words.{part}
use Rattle.logs.specs.declared.line.LineProgress.{LineProgress}
use Rattle.logs.specs.declared.words.Word.{Word}

-- an address word behind which this text is inserted
pub annotated_with : (answer : Answering) (line : List ℕ) (at : ℕ) (t : AddressWord)
    (more : List AddressWord) (text : List ℕ)
    → insertion answer t.value (drop (place_after line t) line)
    (text_for answer (as_read answer (drop (place_after line t) line) t)) ≡ Some text
    → annotated_from answer line at (t ∷ more) ≡ part line at (place_after line t) ++ text
    ++ annotated_from answer line (place_after line t) more
annotated_with answer line at t more text is = rw is refl

-- what is put before the rest of the line
pub put_before : (out out' front text rest : List ℕ) → out' ≡ out ++ front ++ text
    → out' ++ rest ≡ out ++ (front ++ text ++ rest)
put_before out out' front text rest is = ap (λ l. l ++ rest) is
    ∙ append_assoc (out ++ front) text rest ∙ append_assoc out front (text ++ rest)
    ∙ ap (λ l. out ++ l) (sym (append_assoc front text rest))

-- what is owed from a word on that is an address, behind which this text is inserted
pub owed_with : (answer : Answering) (context : LogContext) (line : List ℕ) (p : LineProgress)
    (w : Word) (v place : ℕ) (text : List ℕ)
    → place ≡ w.end + run_of is_closer (drop w.end line)
    → words_behind line w.end ≡ words_behind line place
    → address_at answer.is_narrow line w ≡ Some v
    → insertion answer v (drop place line) (text_for answer
    (as_read answer (drop place line) (taken_at answer.is_narrow context line p.last w v)))
    ≡ Some text
    → owed answer context line p (w ∷ words_behind line w.end)
    ≡ part line p.put place ++ text
    ++ annotated_from answer line place (taken_among answer.is_narrow context line
    (Some (taken_at answer.is_narrow context line p.last w v)) (words_behind line place))
owed_with answer context line p w v place text closers gap has is =
    let t = taken_at answer.is_narrow context line p.last w v in
    rw (has, gap, closers) (annotated_with answer line p.put t _ text (rw closers at is))
