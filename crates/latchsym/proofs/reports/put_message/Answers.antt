use Rattle.latchsym.proofs.Words.{ap, sym, same_text, option_copied, message_text}
use Rattle.latchsym.proofs.reports.put_message.Goals as goal

pub returns-in-Write : goal.returns-in-Write
returns-in-Write g c =
    same_text (ap (message_text c.args.file.now (option_copied c.args.words)) (sym c.in-Write.is))
    c.put_failed-in-Write.ensures
