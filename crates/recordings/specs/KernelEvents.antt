-- Events of a kernel that are about its modules.
use Rattle.std.specs.Prelude.{ℕ, List}
use Rattle.recordings.specs.declared.events.EventKind.{EventKind}

-- an event: what happened, when, as a number and as it is written, and to which module
pub record KernelEvent : Type 0 where
  pub kind : EventKind
  pub time : ℕ
  pub time_text : List ℕ
  pub name : List ℕ
