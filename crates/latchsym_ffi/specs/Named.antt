-- What a call writes of an address, with the names as places in the listings.
use Rattle.std.specs.Prelude.{◌≡◌, ℕ}
use Rattle.modules.specs.Entries.{CatalogEntries}
use Rattle.latchsym_ffi.specs.declared.finding.CatalogSymbol.{CatalogSymbol}
use Rattle.latchsym_ffi.specs.Finding.{Known, answer_of, known_code, owner_named, symbol_named}

-- the numbers are of what is known, and the bytes at the places are the names
pub record IsNamed (c : CatalogEntries) (k : Known) (s : CatalogSymbol) : Type 0 where
  pub number : s.module_number ≡ (answer_of c k).module_number
  pub offset : s.offset ≡ (answer_of c k).offset
  pub size : s.size ≡ (answer_of c k).size
  pub name : s.name.now ≡ symbol_named k
  pub owner : s.«module».now ≡ owner_named c k

-- the symbol is written, and this number is returned
pub record IsTold (c : CatalogEntries) (k : Known) (result : ℕ) (s : CatalogSymbol) : Type 0 where
  pub code : result ≡ known_code k
  pub symbol : IsNamed c k s
