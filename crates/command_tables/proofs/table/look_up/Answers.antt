use Rattle.command_tables.proofs.Words.{◌∙◌, ap, rules, Item, half_open, look, option_and_then}
use Rattle.std.specs.Prelude.{Option}
use Rattle.command_tables.specs.declared.table.AddressAnswer.{AddressAnswer}
use Rattle.command_tables.proofs.WorldOpeningLemmas.{only_for_memory, right_item, still_holds}
use Rattle.command_tables.proofs.table.look_up.Goals as goal

pub returns-in_err-found-clause-refusal : goal.returns-in_err-found-clause-refusal
returns-in_err-found-clause-refusal c = λ items h.
    let e = only_for_memory items c.args.world.now c.find_now.new.self h 0 c.in_err-found.field-0.0
    c.in_err-found.ensures.refusal in
    search (rules, e)

pub returns-clause-found : goal.returns-clause-found
returns-clause-found c = λ items h.
    let same = right_item items c.args.world.now c.find_now.new.self h 0 c.in-Some.place
    c.in_ok-found.found c.in_ok-found.ensures.found in
    let found =
    same ∙ ap (option_and_then (λ place. look half_open place items)) c.in-Some.ensures in
    ap (λ (o : Option Item). let a : AddressAnswer = record { addr = c.args.addr; item = o } in
    a) found

pub returns-clause-holds : goal.returns-clause-holds
returns-clause-holds c = λ items h. still_holds items c.args.world.now c.find_now.new.self h 0
    c.in-Some.place c.in_ok-found.found c.find_now.ensures.layout c.in_ok-found.ensures.finds
