use Rattle.command_line.proofs.Words.{[], ◌∷◌, ◌++◌, ◌∙◌, ap, refl, sym, find, filter_map, take_all}
use Rattle.command_line.proofs.Words.{address_of_text, is_no_address}
use Rattle.command_line.proofs.AddressLemmas.{first_bad, one_address_more, still_addresses, texts}
use Rattle.command_line.proofs.arguments.addresses_of.Goals as goal

pub returns-in-None : goal.returns-in-None
returns-in-None c = λ rows are. (
  refl,
  sym (ap (find is_no_address) are)
      ∙ first_bad c.args.words.now c.loop-word.word-index _ c.loop-word-test.true
      (sym (c.in-None.ensures ∙ ap address_of_text c.as_bytes.ensures.value))
      c.loop-word.invariant.none_bad,
)

pub loop-word-preserved : goal.loop-word-preserved
loop-word-preserved c =
    let number = sym (c.in-Some.ensures ∙ ap address_of_text c.as_bytes.ensures.value) in
    record {
      none_bad = still_addresses c.args.words.now c.loop-word.word-index _ c.loop-word-test.true
          c.in-Some.addr number c.loop-word.invariant.none_bad;
      items = c.in_ok-push-in-Some.ensures.items
          ∙ ap (λ l. l ++ c.in-Some.addr ∷ []) c.loop-word.invariant.items
          ∙ sym (one_address_more c.args.words.now c.loop-word.word-index _ c.loop-word-test.true
          c.in-Some.addr number);
    }

pub returns : goal.returns
returns c = λ rows are.
    let all =
    ap texts (take_all c.loop-word.word-index c.args.words.now c.loop-word-test.false) ∙ are in
    record {
      none_bad = rw all at c.loop-word.invariant.none_bad;
      items = c.loop-word.invariant.items ∙ ap (filter_map address_of_text) all;
    }
