use Rattle.histories.proofs.Words.{◌≡◌, ◌∙◌, ◌∷◌, ◌-◌, List, ℕ, Some, true, sym, ap, arith, take}
use Rattle.histories.proofs.Words.{drop, take_rest, length, length-drop, lines, body_of, header_of}
use Rattle.histories.proofs.Words.{without_end, HistoryPart, parts_of}
use Rattle.histories.proofs.LineLemmas.{bad_after, part_here}
use Rattle.histories.specs.Grammar.{may_follow, time_text}
use Rattle.histories.proofs.history.part_in.Goals as goal

pub returns : goal.returns
returns c =
    let text = c.args.text.now in
    let n = c.line_length-end.result in
    let rest : List ℕ = take (length text - n) (drop n text) in
    let here : rest ≡ drop n text = take_rest text n in
    let line = c.line_length-end.ensures in
    let body = c.in_ok-body.ensures in
    let header = c.in-Some.header in
    let some : header_of (without_end (take n text)) ≡ Some header =
    ap header_of (sym c.without_end-line.ensures) ∙ sym c.header_in.ensures ∙ c.in-Some.is in
    let follows : may_follow c.args.before header ≡ true =
    sym c.may_follow.ensures ∙ c.if-not-may_follow.false in
    let text_is : time_text (without_end (take n text)) ≡ c.time_text.result.now =
    ap time_text (sym c.without_end-line.ensures) ∙ sym c.time_text.ensures in
    record {
      parts =
          part_here header text rest n here line.line some
          ∙ ap (λ (t : List ℕ).
          record { header = header; time_text = t; text = body_of (lines rest) }
          ∷ parts_of (lines rest)) text_is
          ∙ ap (λ (t : List ℕ).
          record { header = header; time_text = c.time_text.result.now; text = t }
          ∷ parts_of (lines rest)) (sym body.body_is)
          ∙ ap (λ (ps : List HistoryPart). record {
            header = header;
            time_text = c.time_text.result.now;
            text = c.in_ok-body.body.text.now;
          } ∷ ps) body.parts;
      on = record {
        bad = bad_after c.args.before header c.args.number text rest n here line.line some follows
            ∙ body.on.bad;
        numbered = omega (
          arith,
          body.on.numbered,
          line.some,
          line.within,
          ap (λ (r : List ℕ). length r) here,
          length-drop n text,
        );
        begins = body.on.begins;
      };
      shorter = omega (
        arith,
        body.shorter,
        line.some,
        line.within,
        ap (λ (r : List ℕ). length r) here,
        length-drop n text,
      );
    }
