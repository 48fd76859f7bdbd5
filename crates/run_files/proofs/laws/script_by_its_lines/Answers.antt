use Rattle.run_files.proofs.Words.{lines_of, script_line_by, are_entries}
use Rattle.run_files.proofs.laws.script_by_its_lines.Goals as goal

pub returns : goal.returns
returns c = λ readers text. are_entries (script_line_by readers) 1 (lines_of text)
