use Rattle.command_listings.proofs.Words.{◌≡◌, ◌∙◌, [], Some, None, ap, option_map, unwrap_or, Vec}
use Rattle.command_listings.proofs.Words.{AskedSymbols, asked_of, Kept, found_by, is_told, list_any}
use Rattle.command_listings.proofs.address_texts.has_line.Goals as goal

pub returns-in-Some : goal.returns-in-Some
returns-in-Some c =
    let word = c.args.word.now in
    let m = c.args.sought.now in
    let v = c.in-Some.symbols.now in
    let asked = c.asked_name-asked.ensures in
    let name = ap (λ (a : AskedSymbols). a.symbol) (c.asked.view_is ∙ asked) in
    let has : Some v.items ≡ found_by m (asked_of word).symbol =
    ap (option_map (λ (x : Vec Kept). x.items)) c.in-Some.ensures.value
    ∙ ap (found_by m) name in
    c.is_any_told.ensures
    ∙ ap (λ a. list_any (is_told c.args.form a) c.deref.result.now) asked
    ∙ ap (list_any (is_told c.args.form (asked_of word)))
    (c.deref.ensures.value ∙ ap (λ o. unwrap_or o []) has)

pub returns-in-None : goal.returns-in-None
returns-in-None c =
    let word = c.args.word.now in
    let m = c.args.sought.now in
    let name = ap (λ (a : AskedSymbols). a.symbol) (c.asked.view_is ∙ c.asked_name-asked.ensures) in
    let has : None ≡ found_by m (asked_of word).symbol =
    ap (option_map (λ (x : Vec Kept). x.items)) c.in-None.ensures.value
    ∙ ap (found_by m) name in
    ap (λ o. list_any (is_told c.args.form (asked_of word)) (unwrap_or o [])) has
