use Rattle.command_listings.proofs.Words.{◌++◌, ◌∙◌, ap, then}
use Rattle.std.proofs.Common.{codes}
use Rattle.listing.specs.Answers.{text_of}
use Rattle.command_listings.proofs.log_answers.inserted_text.Goals as goal

pub returns : goal.returns
returns c =
    let said = then c.put.ensures c.put_answer.ensures in
    c.in-Some.ensures c.in_ok-room.room c.new-text.result (codes " " ++ text_of c.args.answer.now)
    c.new-text.ensures said
    ∙ ap (λ l. l ++ (codes " " ++ text_of c.args.answer.now)) c.in_ok-room.ensures.items
