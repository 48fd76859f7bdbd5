-- The answer for one of several addresses.
use Rattle.std.specs.Prelude.{ℕ}
use Rattle.modules.specs.Entries.{CatalogEntries}
use Rattle.latchsym_ffi.specs.Finding.{Known, answer_of, known_at, known_code}
use Rattle.latchsym_ffi.specs.declared.batches.CodedAnswer.{CodedAnswer}

abbrev pub told_of : CatalogEntries → Known → CodedAnswer
told_of c k = record { answer = answer_of c k; code = known_code k }

-- the answer of a search for the address alone
abbrev pub told_at : CatalogEntries → ℕ → CodedAnswer
told_at c addr = told_of c (known_at c addr)
