use Rattle.latch_steps.proofs.LoadLemmas.{goes, retries, ends}
use Rattle.latch_steps.proofs.lookups.Lookup.load.Goals as goal

pub returns-in-Going : goal.returns-in-Going
returns-in-Going g c = λ n l is.
    goes g.O.TreeOrder.order n c.args.self l is c.args.words.now c.wanted.result
    c.word_at-value.result c.wanted.ensures.word c.word_at-value.ensures c.in-Going.core _
    c.args.reader c.args.last (c.in-Going.ensures.leads l.values is.leads)
    c.counted_up-loads.ensures

pub returns-in-Retrying : goal.returns-in-Retrying
returns-in-Retrying g c = λ n l is.
    retries g.O.TreeOrder.order n c.args.self l is c.args.words.now c.wanted.result
    c.word_at-value.result c.wanted.ensures.word c.word_at-value.ensures c.in-Retrying.core _ _
    c.args.reader c.args.last (c.in-Retrying.ensures.leads l.values is.leads)
    c.counted_up-loads.ensures c.counted_up.ensures

pub returns : goal.returns
returns g c = λ n l is.
    ends g.O.TreeOrder.order n c.args.self l is c.args.words.now c.wanted.result
    c.word_at-value.result c.wanted.ensures.word c.word_at-value.ensures c.key-key.result
    c.in-Returned.answer c.in-Returned.generation _ c.args.reader c.args.last c.key-key.ensures
    (c.in-Returned.ensures.leads l.values is.leads) c.counted_up-loads.ensures
