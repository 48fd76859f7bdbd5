-- The addresses that belong to the symbol that was found last, and what a finder keeps.
use Rattle.std.specs.Prelude.{◌≡◌, ℕ, ◌-◌, ◌<◌, ◌≤◌, IfSome, Some}
use Rattle.order_laws.specs.declared.items.Item.{Item}
use Rattle.modules.specs.Catalogs.{module_of}
use Rattle.modules.specs.Entries.{CatalogEntries, ModuleEntry}
use Rattle.modules.specs.Found.{symbol_at}
use Rattle.modules.specs.Items.{item_of_address}
use Rattle.modules.specs.declared.finder.Finder.TheInside.{Inside}
use Rattle.modules.specs.declared.finder.LastFound.{LastFound}

-- each address of the item lies in it alone, and it is a region of this module
pub record IsRegionOf (c : CatalogEntries) (item : Item) (m : ModuleEntry) : Type 0 where
  pub items : (x : ℕ) → item.a ≤ x → x < item.b → item_of_address c x ≡ Some item
  pub owner : module_of c item.tag ≡ Some m

-- each address of this stretch lies in the item and belongs to the symbol
pub record IsSameWithin (c : CatalogEntries) (l : LastFound) : Type 0 where
  pub above : (x : ℕ) → l.from ≤ x → l.symbol.now.addr ≤ x
  pub items : (x : ℕ) → l.from ≤ x → x < l.to → item_of_address c x ≡ Some l.item
  pub symbols : (x : ℕ) → l.from ≤ x → x < l.to
      → symbol_at c l.item x ≡ Some (record {
        symbol = l.symbol.now;
        offset = x - l.symbol.now.addr;
        size = l.size;
      })

pub record IsWholeFinder (f : Inside) : Type 0 where
  pub region : IfSome f.region (λ r. IsRegionOf f.catalog.now r.item r.owner.now)
  pub last : IfSome f.last (IsSameWithin f.catalog.now)
