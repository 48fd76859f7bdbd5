use Rattle.shared_lookup.proofs.Words.{Some}
use Rattle.shared_lookup.proofs.serving.serve.Given as goal

abbrev pub ghosts-serve_from : goal.ghosts-serve_from
ghosts-serve_from g a = record { table = Some a.opened.0.place; opened = Some a.opened.0 }
