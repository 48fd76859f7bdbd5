-- What the lines of a script have each writer and each reader do.
use Rattle.std.specs.Prelude.{◌≡◌, ℕ, ◌+◌, ◌<◌, ◌==◌, List, length, filter, map, slice_index_or}
use Rattle.std.specs.Prelude.{Option, Some, None}
use Rattle.std.specs.Global.{Vec}
use Rattle.std.specs.List.{filter_map}
use Rattle.run_files.specs.declared.scripts.ScriptLine.{ScriptLine}
use Rattle.run_files.specs.declared.scripts.ScriptLine.TheVariants as line
use Rattle.run_files.specs.Scripts.{most_writers}
use Rattle.modules.specs.Catalogs.{number_for}
use Rattle.modules.specs.Entries.{CatalogEntries}
use Rattle.shared_lookup.specs.declared.changes.Change.{Change}
use Rattle.shared_lookup.specs.declared.changes.Change.TheVariants.{Load, Unload, DropInit}
use Rattle.command_tables.specs.declared.assignments.Assignments.{Assignments}

-- the entries with this number, in order
abbrev pub listed_for : {T : Type 0} → ℕ → List (ℕ × T) → List T
listed_for number entries = map (λ e. e.1) (filter (λ e. e.0 == number) entries)

-- there are `count` lists, the first of them for entries with number 1
pub record AreListed {T : Type 0} (count : ℕ) (entries : List (ℕ × T))
    (lists : List (Vec T)) : Type 0 where
  pub same : length lists ≡ count
  pub each : (place : ℕ) (d : Vec T) → place < count
      → (slice_index_or lists place d).items ≡ listed_for (place + 1) entries

-- the writer of a line and its change
abbrev pub change_in : CatalogEntries → ScriptLine → Option (ℕ × Change)
change_in c (line.Load writer name) = Some (writer, Load (number_for c name))
change_in c (line.Unload writer name) = Some (writer, Unload (number_for c name))
change_in c (line.Init writer name) = Some (writer, DropInit (number_for c name))
change_in c (line.Look reader address) = None

-- the writer of a line and the name of the module that it changes
abbrev pub name_in : ScriptLine → Option (ℕ × List ℕ)
name_in (line.Load writer name) = Some (writer, name)
name_in (line.Unload writer name) = Some (writer, name)
name_in (line.Init writer name) = Some (writer, name)
name_in (line.Look reader address) = None

-- the reader of a line and the address that it looks up
abbrev pub key_in : ScriptLine → Option (ℕ × ℕ)
key_in (line.Load writer name) = None
key_in (line.Unload writer name) = None
key_in (line.Init writer name) = None
key_in (line.Look reader address) = Some (reader, address)

-- there is a list for each writer and for each reader
abbrev pub HasLists : ℕ → Assignments → Type 0
HasLists readers a =
    (length a.changes.items ≡ most_writers) × (length a.names.items ≡ most_writers)
    × (length a.keys.items ≡ readers)

-- each writer has its changes, each reader its addresses, in the order of the lines
pub record IsAssigned (c : CatalogEntries) (readers : ℕ) (lines : List ScriptLine)
    (a : Assignments) : Type 0 where
  pub changes : AreListed most_writers (filter_map (change_in c) lines) a.changes.items
  pub names : AreListed most_writers (filter_map name_in lines) a.names.items
  pub keys : AreListed readers (filter_map key_in lines) a.keys.items
