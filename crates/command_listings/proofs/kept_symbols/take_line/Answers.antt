use Rattle.command_listings.proofs.Words.{◌≡◌, ◌∙◌, Some, None, ap, option_map, rules, subst, sym}
use Rattle.command_listings.proofs.Words.{is_at, slice_cmp, Vec, nat_cmp, result_ok, set_value_same}
use Rattle.command_listings.proofs.Words.{IsSought, Kept, found_by}
use Rattle.command_listings.proofs.SoughtLemmas.{Writes, all, name_not_sought, symbol_kept}
use Rattle.command_listings.proofs.SoughtLemmas.{symbol_not_kept}
use Rattle.command_listings.proofs.kept_symbols.take_line.Goals as goal

pub returns-in_default-get_mut : goal.returns-in_default-get_mut
returns-in_default-get_mut c = λ words kept holds.
    let m = c.args.sought.now in
    let s = c.in-Ok.symbol in
    let index = c.args.index.now in
    let line = c.args.line.now in
    let is = ap result_ok c.in-Ok.ensures in
    let none = subst (λ name. found_by m name ≡ None) c.name.ensures
    (ap (option_map (λ (v : Vec Kept). v.items)) (sym c.in_default-get_mut.ensures.value)) in
    subst (IsSought words (all words kept index line m holds)) (sym c.get_mut.follows.holds-at-none)
    (name_not_sought words kept index line m holds s is none)

pub returns-in_default-kept_symbol : goal.returns-in_default-kept_symbol
returns-in_default-kept_symbol c = λ words kept holds.
    let m = c.args.sought.now in
    let v = c.in-Some.found.now in
    let is = ap result_ok c.in-Ok.ensures in
    symbol_not_kept words kept c.args.index.now c.args.line.now m holds c.in-Ok.symbol is
    c.in_default-kept_symbol.ensures (c.get_mut.follows.lender v)
    ((c.get_mut.follows.holds v).0
    ∙ set_value_same (is_at (λ k. slice_cmp nat_cmp c.name.result.now k.now)) m.entries v
    (sym c.in-Some.ensures.value))

pub returns : goal.returns
returns c = λ words kept holds.
    let m = c.args.sought.now in
    let v = c.in-Some.found.now in
    let is = ap result_ok c.in-Ok.ensures in
    let w = c.push.new.self in
    let n = c.get_mut.follows.lender w in
    let name = c.name.ensures in
    let had = subst (λ x. found_by m x ≡ Some v.items) name
    (ap (option_map (λ (x : Vec Kept). x.items)) (sym c.in-Some.ensures.value)) in
    let writes = subst (λ x. Writes x m n w) name ((c.get_mut.follows.holds w).3 (search rules)) in
    symbol_kept words kept c.args.index.now c.args.line.now m holds c.in-Ok.symbol is
    c.in-Some-kept_symbol.kept c.in-Some-kept_symbol.ensures v w had c.in_ok-push.ensures.items
    n writes
