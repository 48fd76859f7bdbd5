use Rattle.run_files.proofs.Words.{[], ◌∙◌}
use Rattle.run_files.proofs.FormLemmas.{header_five}
use Rattle.run_files.proofs.header.header_in_words.Goals as goal

pub returns-in-len5 : goal.returns-in-len5
returns-in-len5 c =
    c.make_header-in-len5.ensures
    ∙ header_five c.args.words.now (record { ref_ptr = (0, 0); now = [] }) c.number.result
    c.number.ensures c.in-len5.len_at_least c.in-len5.len_below
