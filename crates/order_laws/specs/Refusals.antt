-- The numbers of the refusals.
use Rattle.std.specs.Prelude.{ℕ}
use Rattle.order_laws.specs.declared.refusals.Refusal.{Refusal}
use Rattle.order_laws.specs.declared.refusals.Refusal.TheVariants.{BadItem, Overlap, NoSuchItem}
use Rattle.order_laws.specs.declared.refusals.Refusal.TheVariants.{Full, UpdateInHand}
use Rattle.order_laws.specs.declared.refusals.Refusal.TheVariants.{SequenceSpent, OutOfMemory}
use Rattle.order_laws.specs.declared.refusals.Refusal.TheVariants.{ReaderBusy, ReaderIdle}
use Rattle.order_laws.specs.declared.refusals.Refusal.TheVariants.{BadCapacity, UnknownModule}
use Rattle.order_laws.specs.declared.refusals.Refusal.TheVariants.{AlreadyLoaded, NotLoaded}
use Rattle.order_laws.specs.declared.refusals.Refusal.TheVariants.{TooManyRegions, NoInit}

-- the number that is printed for a refusal
abbrev pub refusal_number : Refusal → ℕ
refusal_number BadItem = 1
refusal_number Overlap = 2
refusal_number NoSuchItem = 3
refusal_number Full = 4
refusal_number UpdateInHand = 5
refusal_number SequenceSpent = 6
refusal_number OutOfMemory = 7
refusal_number ReaderBusy = 8
refusal_number ReaderIdle = 9
refusal_number BadCapacity = 10
refusal_number UnknownModule = 11
refusal_number AlreadyLoaded = 12
refusal_number NotLoaded = 13
refusal_number TooManyRegions = 14
refusal_number NoInit = 17
