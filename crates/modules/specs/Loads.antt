-- What a load, an unload, and the end of a module's start change.
use Rattle.std.specs.Prelude.{◌≡◌, ℕ, Bool, true, false, ◌&&◌, ◌⊎◌, not, nat_eq, length}
use Rattle.std.specs.Prelude.{if◌then◌else◌, List, [], ◌∷◌, map, Option, Some, None, Result, Ok}
use Rattle.std.specs.Prelude.{Err}
use Rattle.std.specs.List.{list_any}
use Rattle.std.specs.Option.{option_map_or}
use Rattle.std.specs.Str.{bytes_eq}
use Rattle.table_updates.specs.declared.updates.Update.{Update}
use Rattle.table_updates.specs.declared.updates.Update.TheVariants.{Insert, Erase, Batch}
use Rattle.order_laws.specs.declared.items.Item.{Item}
use Rattle.order_laws.specs.declared.refusals.Refusal.{Refusal}
use Rattle.order_laws.specs.declared.refusals.Refusal.TheVariants.{AlreadyLoaded, NoInit, NotLoaded}
use Rattle.order_laws.specs.declared.refusals.Refusal.TheVariants.{OutOfMemory, UnknownModule}
use Rattle.modules.specs.Catalogs.{module_of}
use Rattle.modules.specs.Entries.{CatalogEntries, ModuleEntry}
use Rattle.modules.specs.Parts.{is_init}
use Rattle.modules.specs.Starts.{starts_of}
use Rattle.modules.specs.declared.catalog.Held.{Held}

-- one item put in or one taken out is an update of its own, and anything else a batch
abbrev pub update_of : List ℕ → List Item → Update
update_of [] [] = Batch [] []
update_of [] (i ∷ []) = Insert i
update_of [] (i ∷ j ∷ rest) = Batch [] (i ∷ j ∷ rest)
update_of (a ∷ []) [] = Erase a
update_of (a ∷ []) (i ∷ rest) = Batch (a ∷ []) (i ∷ rest)
update_of (a ∷ b ∷ rest) items = Batch (a ∷ b ∷ rest) items

-- the entry of a list that has just one
abbrev pub only_of : {A : Type 0} → List A → Option A
only_of [] = None
only_of (x ∷ []) = Some x
only_of (x ∷ y ∷ rest) = None

-- the item of a region of this module
abbrev pub item_of : ℕ → ℕ × ℕ → Item
item_of number r = record { a = r.0; b = r.1; tag = number }

-- all regions of a module that is not held are put in
abbrev pub load_update : ℕ → Held → ModuleEntry → Result Update Refusal
load_update number held m =
    if held.core then Err AlreadyLoaded else Ok (update_of [] (map (item_of number) m.regions))

-- of a module that is held the core regions are taken out, and the init regions if they are held
abbrev pub unload_update : Held → ModuleEntry → Result Update Refusal
unload_update held m =
    if held.core then Ok (update_of (starts_of true held.init m.regions m.parts) [])
    else Err NotLoaded

-- of a module that is held with init regions these are taken out
abbrev pub drop_init_update : Held → ModuleEntry → Result Update Refusal
drop_init_update held m =
    if held.core
    then
    (if held.init && list_any is_init m.parts
    then Ok (update_of (starts_of false true m.regions m.parts) [])
    else Err NoInit)
    else Err NotLoaded

abbrev pub load_of : CatalogEntries → ℕ → Held → Result Update Refusal
load_of c number held =
    option_map_or (load_update number held) (module_of c number) (Err UnknownModule)

abbrev pub unload_of : CatalogEntries → ℕ → Held → Result Update Refusal
unload_of c number held =
    option_map_or (unload_update held) (module_of c number) (Err UnknownModule)

abbrev pub drop_init_of : CatalogEntries → ℕ → Held → Result Update Refusal
drop_init_of c number held =
    option_map_or (drop_init_update held) (module_of c number) (Err UnknownModule)

-- a batch takes memory; nothing else does
abbrev pub TakesMemory : Result Update Refusal → Type 0
TakesMemory (Ok (Insert i)) = ⊥
TakesMemory (Ok (Erase a)) = ⊥
TakesMemory (Ok (Batch erase insert)) = Unit {0}
TakesMemory (Err e) = ⊥

-- what is asked for, or out of memory in place of a batch
abbrev pub GivesOrLacksMemory : Result Update Refusal → Result Update Refusal → Type 0
GivesOrLacksMemory asked given = (given ≡ asked) ⊎ ((given ≡ Err OutOfMemory) × TakesMemory asked)

-- the update is given for some answer of what is held
abbrev pub GivesSome : (Held → Result Update Refusal) → Update → Type 0
GivesSome asked u = (held : Held) × (asked held ≡ Ok u)

-- there is nothing in the list
abbrev pub has_no_items : {A : Type 0} → List A → Bool
has_no_items [] = true
has_no_items (x ∷ xs) = false

-- the item is the region's, with this number
abbrev pub is_item_of : ℕ → ℕ × ℕ → Item → Bool
is_item_of number r i = nat_eq i.a r.0 && nat_eq i.b r.1 && nat_eq i.tag number

-- the items are the regions', in order, with this number
abbrev pub same_items : ℕ → List (ℕ × ℕ) → List Item → Bool
same_items number [] items = has_no_items items
same_items number (r ∷ rs) [] = false
same_items number (r ∷ rs) (i ∷ is) = is_item_of number r i && same_items number rs is

-- the update takes out the items of these first words, and does nothing else
abbrev pub is_erasing : List ℕ → Update → Bool
is_erasing starts (Insert i) = false
is_erasing starts (Erase a) = bytes_eq starts (a ∷ [])
is_erasing starts (Batch erase insert) =
    not (nat_eq (length starts) 1) && has_no_items insert && bytes_eq starts erase

-- the update puts in the items of these regions, and does nothing else
abbrev pub is_inserting : ℕ → List (ℕ × ℕ) → Update → Bool
is_inserting number regions (Insert i) = same_items number regions (i ∷ [])
is_inserting number regions (Erase a) = false
is_inserting number regions (Batch erase insert) =
    not (nat_eq (length regions) 1) && has_no_items erase && same_items number regions insert
