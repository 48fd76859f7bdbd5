-- The lines that a lookup of addresses writes.
use Rattle.std.specs.Prelude.{ℕ, List, [], ◌++◌, codes, decimal, flat_map, map, if◌then◌else◌}
use Rattle.std.specs.Prelude.{Option}
use Rattle.texts.specs.Exact.{hexadecimal}
use Rattle.modules.specs.Entries.{CatalogEntries}
use Rattle.modules.specs.Listed.{BoundNames}
use Rattle.listing.specs.Answers.{Known, answer_of, text_of}
use Rattle.listing.specs.Tallies.{Tallies, counts_text}
use Rattle.listing.specs.declared.address_rules.AddressRule.{AddressRule}
use Rattle.command_tables.specs.CatalogTables.{answer_at}
use Rattle.command_parts.specs.JsonTexts.{json_counts, json_line}
use Rattle.command_parts.specs.declared.forms.AnswerForm.{AnswerForm}
use Rattle.command_tables.specs.declared.table.AddressAnswer.{AddressAnswer}

-- which addresses are looked up before the ones of a file, how they are taken, and how the answers
-- are written; the names of the kernel's bounds may be given
pub record Query : Type 0 where
  pub kernel : Option BoundNames
  pub rule : AddressRule
  pub form : AnswerForm
  pub addresses : List ℕ

-- an address, and the text of its answer
unfoldable pub answer_line : ℕ → Known → List ℕ
answer_line addr k = hexadecimal addr ++ codes " " ++ text_of k ++ codes "\n"

-- the line of an address with this known of it
unfoldable pub known_line : AnswerForm → ℕ → Known → List ℕ
known_line form addr k = if form.json then json_line addr k else answer_line addr k

-- the line of an answer
abbrev pub line_by : AnswerForm → CatalogEntries → AddressRule → AddressAnswer → List ℕ
line_by form c rule a = known_line form a.addr (answer_of c rule a.item a.addr)

-- the counts, if the form has them
unfoldable pub counts_by : AnswerForm → Tallies → List ℕ
counts_by form t =
    if form.counts then if form.json then json_counts t else counts_text t else []

-- a line for each address that is looked up in a catalog, and then the counts
abbrev pub lookup_lines : AnswerForm → CatalogEntries → AddressRule → List ℕ → Tallies → List ℕ
lookup_lines form c rule addresses t =
    flat_map (line_by form c rule) (map (answer_at c rule) addresses) ++ counts_by form t

-- a word, with the blanks around it, and a count
abbrev pub count_text : List ℕ → ℕ → List ℕ
count_text word count = word ++ decimal count
