-- How the addresses of a log are answered.
use Rattle.std.specs.Prelude.{ℕ, Bool, List, Option}

-- An address of a log has two *readings*: as a return address, which is looked up one byte lower,
-- and as it is. Each is asked for by a Bool, which is true for a return address.
pub record Answering : Type 0 where
  -- the log is of a 32-bit kernel
  pub is_narrow : Bool
  -- what is inserted for an address, if anything is, if its place in the line asks for this reading
  pub text : Bool → ℕ → Option (List ℕ)
  -- a reading's symbol, or another one at its address, has this name
  pub is_alias : Bool → ℕ → List ℕ → Bool
  -- a reading's offset from its symbol is this one
  pub is_offset : Bool → ℕ → ℕ → Bool
  -- data begins at an address
  pub is_data : ℕ → Bool
  -- Of the functions of the kernel itself with this name, one has this size; or there is none with
  -- this name.
  pub has_size : List ℕ → ℕ → Option Bool
  -- an address is not below all that the listing has
  pub is_in_range : ℕ → Bool
