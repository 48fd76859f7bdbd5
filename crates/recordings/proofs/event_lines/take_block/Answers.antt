use Rattle.recordings.proofs.Words.{◌≡◌, ◌∙◌, ◌<◌, ◌++◌, ◌-◌, List, ℕ, ap, arith, sym, drop, take}
use Rattle.recordings.proofs.Words.{length, length-take, has_end, take-append-drop, take_rest}
use Rattle.recordings.proofs.LineLemmas.{takes_lines, takes_none}
use Rattle.recordings.proofs.event_lines.take_block.Goals as goal

pub returns-then-end-eq0 : goal.returns-then-end-eq0
returns-then-end-eq0 c = λ line o.
    let block = c.args.block.now in
    let none = ap (λ (n : ℕ). has_end (drop n block)) (sym c.if-end-eq0.true)
    ∙ c.whole_length-end.ensures.none in
    rw c.new.ensures.items
    (takes_none c.args.begun.now.items c.keep.new.begun.items line block o none
    c.in_ok-keep.ensures)

pub returns : goal.returns
returns c = λ line o.
    let block = c.args.block.now in
    let begun = c.args.begun.now.items in
    let end = c.whole_length-end.result in
    let front = take end block in
    let rest : List ℕ = take (length block - end) (drop end block) in
    let some : 0 < length front = omega
    (arith, length-take end block, c.whole_length-end.ensures.within, c.if-end-eq0.false) in
    let parts : block ≡ front ++ rest = sym (take-append-drop end block)
    ∙ ap (λ (l : List ℕ). front ++ l) (sym (take_rest block end)) in
    let unended = ap has_end (take_rest block end) ∙ c.whole_length-end.ensures.none in
    let text = c.in_ok-extend_from_slice-2.ensures.items
    ∙ ap (λ (l : List ℕ). l ++ front) (c.in_ok-extend_from_slice.ensures.items
    ∙ ap (λ (l : List ℕ). l ++ c.deref.result.now) c.in_ok-text.ensures.items
    ∙ c.deref.ensures.value) in
    let kept : c.extend_from_slice-3.new.self.items ≡ rest =
    c.in_ok-extend_from_slice-3.ensures.items
    ∙ ap (λ (l : List ℕ). l ++ rest) c.clear.ensures.items in
    rw kept
    (takes_lines begun line block front rest c.extend_from_slice-2.new.self.items o some parts
    c.whole_length-end.ensures.whole unended text)
