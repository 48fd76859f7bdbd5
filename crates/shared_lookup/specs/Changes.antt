-- What a load, an unload and the end of a module's start do to a table.
use Rattle.std.specs.Prelude.{◌≡◌, ◌⊎◌, ℕ, Bool, false, List, Option, Result, Ok, Err}
use Rattle.std.specs.Option.{option_map_or}
use Rattle.order_laws.specs.declared.items.Item.{Item}
use Rattle.order_laws.specs.declared.refusals.Refusal.{Refusal}
use Rattle.order_laws.specs.Tables.{has}
use Rattle.table_updates.specs.declared.updates.Update.{Update}
use Rattle.modules.specs.Catalogs.{module_of}
use Rattle.modules.specs.Entries.{CatalogEntries, ModuleEntry}
use Rattle.modules.specs.Loads.{load_of, unload_of, drop_init_of}
use Rattle.modules.specs.Parts.{is_core, is_init}
use Rattle.modules.specs.Starts.{first_start}
use Rattle.modules.specs.declared.catalog.Held.{Held}
use Rattle.shared_lookup.specs.declared.changes.Change.{Change}
use Rattle.shared_lookup.specs.declared.changes.Change.TheVariants.{Load, Unload, DropInit}
use Rattle.shared_lookup.specs.Ledgers.{LedgerState, ledger_table, Applies, RefusesEntry}

-- the number of the module that is changed
abbrev pub number_of_change : Change → ℕ
number_of_change (Load n) = n
number_of_change (Unload n) = n
number_of_change (DropInit n) = n

-- the update that a catalog gives for a change, by what is held of the module
abbrev pub asked : CatalogEntries → Change → Held → Result Update Refusal
asked c (Load n) held = load_of c n held
asked c (Unload n) held = unload_of c n held
asked c (DropInit n) held = drop_init_of c n held

-- the table has an item that begins there; false without such a place
abbrev pub holds_start : List Item → Option ℕ → Bool
holds_start table start = option_map_or (λ a. has a table) start false

-- what of a module a table holds, by the first regions of its core and of its start
abbrev pub held_of : List Item → ModuleEntry → Held
held_of table m =
    record {
      core = holds_start table (first_start is_core m);
      init = holds_start table (first_start is_init m);
    }

abbrev pub none_held : Held
none_held = record { core = false; init = false }

abbrev pub held_in : CatalogEntries → ℕ → List Item → Held
held_in c n table = option_map_or (held_of table) (module_of c n) none_held

-- the update that a change is, at a table
abbrev pub update_of_change : CatalogEntries → Change → List Item → Result Update Refusal
update_of_change c ch table = asked c ch (held_in c (number_of_change ch) table)

-- the update of the change is applied
abbrev pub Changes : CatalogEntries → Change → LedgerState → LedgerState → ℕ → Type 0
Changes c ch l l' g =
    (u : Update) × (update_of_change c ch (ledger_table l) ≡ Ok u) × Applies u l l' g

-- the catalog refuses the change, or its update is refused
abbrev pub RefusesChange : CatalogEntries → Change → LedgerState → Refusal → Type 0
RefusesChange c ch l e =
    (update_of_change c ch (ledger_table l) ≡ Err e)
    ⊎ ((u : Update) × (update_of_change c ch (ledger_table l) ≡ Ok u) × RefusesEntry u l e)

-- the update is one that the catalog gives for the change, whatever is held
abbrev pub IsUpdateFor : CatalogEntries → Change → Update → Type 0
IsUpdateFor c ch u = (held : Held) × (asked c ch held ≡ Ok u)

-- what becomes of a change: at some ledger it is applied, or it is refused there
abbrev pub IsOutcomeOf : CatalogEntries → Change → Result ℕ Refusal → Type 0
IsOutcomeOf c ch (Ok g) = (l : LedgerState) × (l' : LedgerState) × Changes c ch l l' g
IsOutcomeOf c ch (Err e) = (l : LedgerState) × RefusesChange c ch l e
