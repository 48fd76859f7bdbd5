-- What the threads of lists are given, and what they come back with.
use Rattle.std.specs.Prelude.{◌≡◌, ℕ, List, Option}
use Rattle.std.specs.Global.{Vec}
use Rattle.atomic_table.specs.Seated.{TableId}
use Rattle.shared_lookup.specs.declared.changes.Change.{Change}
use Rattle.shared_lookup.specs.declared.threads.Changing.{Changing}
use Rattle.shared_lookup.specs.declared.threads.LookupResults.{LookupResults}
use Rattle.shared_lookup.specs.declared.threads.ChangeResults.{ChangeResults}
use Rattle.shared_lookup.specs.declared.threads.ReaderThread.{ReaderThread}
use Rattle.shared_lookup.specs.declared.threads.WriterThread.{WriterThread}
use Rattle.modules.specs.Entries.{CatalogEntries}
use Rattle.shared_lookup.specs.Followings.{AreMade}
use Rattle.shared_lookup.specs.Ledgers.{LedgerState}
use Rattle.shared_lookup.specs.Paired.{ArePaired}
use Rattle.shared_lookup.specs.Readers.{IsHeard}

-- each list of changes has room for its outcomes
abbrev pub HaveRoom : List (Vec Change) → List Changing → Type 0
HaveRoom = ArePaired (λ _ list l. l.changes.now ≡ list.items)

-- each list of changes has a thread, or none if it is empty or no thread could be made
abbrev pub AreChanging : {W : Type 0} → W → List (Vec Change) → List (WriterThread W) → Type 0
AreChanging changer =
    ArePaired (λ _ list w. (w.changer.now ≡ changer) × (w.changes.now ≡ list.items))

-- each list of keys has a thread, or none if it is empty or no thread could be made
abbrev pub AreReading : {W : Type 0} → W → List (Vec ℕ) → List (ReaderThread W) → Type 0
AreReading changer =
    ArePaired (λ place list r. (r.changer.now ≡ changer) × (r.reader ≡ place)
    × (r.keys.now ≡ list.items))

-- each list of keys has come back with what its thread had
abbrev pub AreHeard : Option TableId → List (Vec ℕ) → List LookupResults → Type 0
AreHeard table =
    ArePaired (λ place list f. IsHeard table place list.items f.answers.items f.ended f.seat)

-- each list of changes has come back with what its thread had
abbrev pub AreAllMade : Option TableId → Option LedgerState → CatalogEntries
    → List (Vec Change) → List ChangeResults → Type 0
AreAllMade table opened c =
    ArePaired (λ _ list m. AreMade table opened c list.items m.outcomes.items m.seat)
