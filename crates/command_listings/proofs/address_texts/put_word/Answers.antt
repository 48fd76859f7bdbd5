use Rattle.command_listings.proofs.Words.{◌≡◌, ◌∙◌, [], Some, None, ap, option_map, unwrap_or, Vec}
use Rattle.command_listings.proofs.Words.{same_text, symbols_text, AskedSymbols, asked_of, Kept}
use Rattle.command_listings.proofs.Words.{found_by}
use Rattle.command_listings.proofs.address_texts.put_word.Goals as goal

pub returns-in-Some : goal.returns-in-Some
returns-in-Some g c =
    let word = c.args.word.now in
    let m = c.args.sought.now in
    let v = c.in-Some.symbols.now in
    let asked = c.asked_name-asked.ensures in
    let name = ap (λ (a : AskedSymbols). a.symbol) (c.asked.view_is ∙ asked) in
    let has : Some v.items ≡ found_by m (asked_of word).symbol =
    ap (option_map (λ (x : Vec Kept). x.items)) c.in-Some.ensures.value
    ∙ ap (found_by m) name in
    same_text
    (ap (λ a. symbols_text c.args.form word a c.deref.result.now) asked
    ∙ ap (symbols_text c.args.form word (asked_of word))
    (c.deref.ensures.value ∙ ap (λ o. unwrap_or o []) has))
    c.put_symbols.ensures

pub returns-in-None : goal.returns-in-None
returns-in-None g c =
    let word = c.args.word.now in
    let m = c.args.sought.now in
    let name = ap (λ (a : AskedSymbols). a.symbol) (c.asked.view_is ∙ c.asked_name-asked.ensures) in
    let has : None ≡ found_by m (asked_of word).symbol =
    ap (option_map (λ (x : Vec Kept). x.items)) c.in-None.ensures.value
    ∙ ap (found_by m) name in
    let asked = c.asked_name-asked.ensures in
    same_text
    (ap (λ a. symbols_text c.args.form word a []) asked
    ∙ ap (λ o. symbols_text c.args.form word (asked_of word) (unwrap_or o [])) has)
    c.put_untold.ensures
