-- What the calls on catalogs return.
use Rattle.std.specs.Prelude.{◌≡◌, ℕ, ◌⊎◌, Err}
use Rattle.latchsym_ffi.specs.declared.handles.Handle.{Handle}
use Rattle.latchsym_ffi.specs.declared.opening.CatalogCounts.{CatalogCounts}
use Rattle.latchsym_ffi.specs.Handles.{HoldsCatalog}
use Rattle.listing.specs.Opening.{Given, listings_of}
use Rattle.latchsym_ffi.specs.HeldCatalogs.{HeldCatalog}
use Rattle.latchsym_ffi.specs.Opening.{AreRead, HasTooManyRegionLines, IsListedFor}
use Rattle.latchsym_ffi.specs.declared.listings.CatalogListings.{CatalogListings}

-- the handle was closed, and now holds the catalog of what C gives, with its counts, and the parts
-- of the listing of symbols
abbrev pub OpensCatalog : CatalogListings → Handle → Handle → CatalogCounts → Type 0
OpensCatalog given h h' n =
    (h.kind ≡ 0) × ((c : HeldCatalog) × HoldsCatalog c h' × AreRead given c.entries n
    × IsListedFor given c.listing)

-- a refusal as out of memory, of too many region lines, or of a bad line of the listing of regions
abbrev pub RefusesCatalog : Given → ℕ → ℕ → Type 0
RefusesCatalog g bad result =
    (result ≡ 7)
    ⊎ ((result ≡ 14) × HasTooManyRegionLines g)
    ⊎ ((result ≡ 15) × (listings_of g ≡ Err bad))
