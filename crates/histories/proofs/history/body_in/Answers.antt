use Rattle.histories.proofs.Words.{◌≡◌, ◌∙◌, ◌+◌, ◌-◌, ◌≤◌, true, List, ℕ, None, sym, ap, arith}
use Rattle.histories.proofs.Words.{take, drop, length, length-drop, take_rest, header_of}
use Rattle.histories.proofs.Words.{without_end}
use Rattle.histories.proofs.LineLemmas.{bad_more, body_more, parts_more}
use Rattle.histories.specs.Grammar.{is_understood_after}
use Rattle.histories.proofs.history.body_in.Goals as goal

pub loop-i-preserved : goal.loop-i-preserved
loop-i-preserved c =
    let text = c.args.text.now in
    let i = c.loop-i.i in
    let n = c.line_length-end.result in
    let rest : List ℕ = take (length text - i) (drop i text) in
    let inv = c.loop-i.invariant in
    let line = c.line_length-end.ensures in
    let here = take_rest text i in
    let within : i + n ≤ length text = omega (
      arith,
      line.within,
      ap (λ (r : List ℕ). length r) here,
      length-drop i text,
      c.loop-i-test.true,
    ) in
    let none : header_of (without_end (take n rest)) ≡ None =
    ap header_of (sym c.without_end-line.ensures) ∙ sym c.header_in.ensures ∙ c.in_default.is in
    let good : is_understood_after c.args.header (without_end (take n rest)) ≡ true =
    ap (is_understood_after c.args.header) (sym c.without_end-line.ensures)
    ∙ sym c.is_understood_after.ensures ∙ c.if-not-is_understood_after.false in
    record {
      within = within;
      numbered = omega
          (arith, line.some, within, inv.numbered, length-drop i text, length-drop (i + n) text);
      body = body_more text rest i n here line.line none ∙ inv.body;
      parts = parts_more text rest i n here line.line none ∙ inv.parts;
      bad = bad_more c.args.header c.loop-i.number text rest i n here line.line none good ∙ inv.bad;
    }
