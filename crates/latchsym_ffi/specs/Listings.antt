-- The struct of C that has the listings.
use Rattle.std.specs.Prelude.{ℕ, Bool, not, ◌&&◌, ◌||◌, nat_eq, if◌then◌else◌, List, length}
use Rattle.std.specs.Prelude.{Option, Some, None}
use Rattle.modules.specs.Listed.{BoundNames}
use Rattle.listing.specs.Opening.{Given}
use Rattle.latchsym_ffi.specs.declared.listings.CatalogListings.{CatalogListings}

-- how many bytes the struct has
abbrev pub size_of_listings : ℕ
size_of_listings = 96

abbrev pub is_empty : List ℕ → Bool
is_empty text = nat_eq (length text) 0

-- a text that is none if it has no byte
abbrev pub text_if_any : List ℕ → Option (List ℕ)
text_if_any text = if is_empty text then None else Some text

-- the names of both bounds of the kernel, which are none if neither has a byte
abbrev pub bounds_if_any : List ℕ → List ℕ → Option BoundNames
bounds_if_any start end =
    if is_empty start && is_empty end then None else Some (record { start = start; end = end })

-- the struct is one of this version, and has no byte of a listing of modules or of regions if it
-- says that there are none of modules
abbrev pub is_understood : CatalogListings → Bool
is_understood l =
    nat_eq l.size size_of_listings
    && (not (nat_eq l.has_modules 0) || is_empty l.modules.now && is_empty l.regions.now)

-- it has a change of a listing of symbols, and no listing of modules
abbrev pub is_change : CatalogListings → Bool
is_change l = is_understood l && nat_eq l.has_modules 0

-- the texts that it has
abbrev pub texts_in : CatalogListings → Given
texts_in l = record {
  modules = if nat_eq l.has_modules 0 then None else Some l.modules.now;
  kallsyms = l.kallsyms.now;
  regions = text_if_any l.regions.now;
}

-- the names of both bounds of the kernel, if it has them
abbrev pub kernel_in : CatalogListings → Option BoundNames
kernel_in l = bounds_if_any l.start.now l.end.now
