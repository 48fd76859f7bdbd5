use Rattle.latchsym_ffi.proofs.Words.{List, ℕ, option_map, without_letter, ◌≡◌, ◌<◌, All, Some, ap}
use Rattle.latchsym_ffi.proofs.Words.{arith, length, map, slice_get, subst, sym, ◌∙◌, length-set}
use Rattle.latchsym_ffi.proofs.Words.{take_all, slice_get-get_or, SymbolEntry, index_entries_of}
use Rattle.latchsym_ffi.proofs.Words.{IndexEntry, length-entries_of, entry_of_row, symbol_of_row}
use Rattle.latchsym_ffi.proofs.Words.{ViewSymbol}
use Rattle.latchsym_ffi.proofs.FlatteningLemmas.{all_more, entries_more}
use Rattle.latchsym_ffi.proofs.flattening.list.Goals as goal

pub loop-place-preserved : goal.loop-place-preserved
loop-place-preserved c =
    let symbols = c.args.symbols.now in
    let n = c.loop-place.place in
    let s = c.index-symbols-place.result in
    let x : ViewSymbol = record { addr = c.symbol.inside.addr; place = n; name = c.name.result } in
    let own = c.symbol.view_is ∙ c.index-symbols-place.is in
    let before = c.loop-place.invariant in
    let within : n < length symbols = c.loop-place-test.true in
    let room : n < length c.loop-place.rows = omega (arith, before.0, c.requires, within) in (
      length-set c.loop-place.rows n x ∙ before.0,
      entries_more symbols c.loop-place.rows n x s within room (ap (λ (e : SymbolEntry).
          let r : IndexEntry = record { addr = e.addr; place = n } in r) own) before.1,
      all_more (λ (r : ViewSymbol). option_map without_letter (slice_get symbols r.place)
          ≡ Some (symbol_of_row r)) c.loop-place.rows n x room before.2
          (ap (option_map without_letter) (slice_get-get_or symbols n s within)
          ∙ ap (λ (e : SymbolEntry). Some (without_letter e)) (sym c.index-symbols-place.is)
          ∙ ap (λ (e : SymbolEntry). let f : SymbolEntry =
          record { addr = e.addr; letter = 0; name = s.name } in Some f) (sym c.symbol.view_is)
          ∙ ap (λ (l : List ℕ). let f : SymbolEntry =
          record { addr = c.symbol.inside.addr; letter = 0; name = l } in
          Some f) (sym c.name.ensures)),
    )

pub returns-clause-listed : goal.returns-clause-listed
returns-clause-listed c =
    let symbols = c.args.symbols.now in
    let before = c.loop-place.invariant in
    let whole = take_all c.loop-place.place c.loop-place.rows
    (omega (arith, before.0, c.requires, c.loop-place-test.false)) in
    let entries = length-entries_of symbols in
    record {
      entries = sym (ap (map entry_of_row) whole) ∙ before.1
          ∙ take_all c.loop-place.place (index_entries_of symbols)
          (omega (arith, entries, c.loop-place-test.false));
      named = subst (All (λ (r : ViewSymbol). option_map without_letter (slice_get symbols r.place)
          ≡ Some (symbol_of_row r))) whole before.2;
    }
