-- What the adding of a reader gives.
use Rattle.latch_table.specs.Adding.{AddsReader}
use Rattle.latch_table.specs.Readers.{ReaderState}
use Rattle.latch_table.specs.Writers.{WriterState}
use Rattle.latchsym_ffi.specs.declared.handles.Handle.{Handle}
use Rattle.latchsym_ffi.specs.Handles.{HoldsReader}

-- the handle holds one more reader of the writer's table
pub record AddsHandle (h : Handle) (w w' : WriterState) : Type 0 where
  pub reader : ReaderState
  pub held : HoldsReader reader h
  pub adds : AddsReader w w' reader
