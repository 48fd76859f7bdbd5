-- What an admission shows: which modules are accepted so far.
use Rattle.std.specs.Prelude.{◌≡◌, ℕ, Bool}
use Rattle.std.specs.List.{list_all}
use Rattle.modules.specs.Accepted.{Accepted, taken_regions}
use Rattle.modules.specs.declared.admission.Admission.{Admission}

abbrev pub admission_view : Admission → Accepted
admission_view a = record a.accepted { double = a.double; overlap = a.overlap }

-- a property holds for all of its regions exactly if it holds for all that are taken
pub record IsAdmission (a : Admission) : Type 0 where
  pub free : (p : ℕ × ℕ → Bool) → list_all p a.taken ≡ list_all p (taken_regions (admission_view a))
