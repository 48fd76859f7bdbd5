-- What the taking back of a reader gives.
use Rattle.std.specs.Prelude.{◌≡◌, ◌≢◌, ℕ, ◌-◌, ◌<◌, ◌⊎◌}
use Rattle.order_laws.specs.declared.refusals.Refusal.TheVariants.{BadCapacity}
use Rattle.order_laws.specs.Refusals.{refusal_number}
use Rattle.latch_table.specs.Writers.{WriterState}
use Rattle.latchsym_ffi.specs.declared.handles.Handle.{Handle}
use Rattle.latchsym_ffi.specs.Kinds.{reader_kind}

-- the writer has one reader fewer, and is else as before
pub record CountsOneFewer (w w' : WriterState) : Type 0 where
  pub some : 0 < w.readers
  pub writer : w' ≡ record w { readers = w.readers - 1 }

-- the handle, which held a reader, is closed, and the writer has one reader fewer
pub record TakesBack (h h' : Handle) (w w' : WriterState) : Type 0 where
  pub had : h.kind ≡ reader_kind
  pub closed : h'.kind ≡ 0
  pub counts : CountsOneFewer w w'

-- the handle holds no reader; or else the writer has none
abbrev pub RefusesBack : WriterState → Handle → ℕ → Type 0
RefusesBack w h result =
    ((result ≡ 101) × (h.kind ≢ reader_kind))
    ⊎ ((result ≡ refusal_number BadCapacity) × (h.kind ≡ reader_kind) × (w.readers ≡ 0))
