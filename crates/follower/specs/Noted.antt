-- Code that the caller noted, by generation and by stamp.
use Rattle.std.specs.Prelude.{◌≡◌, ℕ, ◌+◌, ◌≤◌, Bool, false, not, ◌&&◌, nat_le, nat_eq, is_none}
use Rattle.std.specs.Prelude.{List, filter, find, position, slice_get, slice_set, Option, Some}
use Rattle.std.specs.Option.{option_map_or}
use Rattle.follower.specs.declared.catalogs.Moment.{Moment}
use Rattle.follower.specs.declared.catalogs.Moment.TheVariants.{Generation, Stamp}
use Rattle.follower.specs.declared.noted.DatedCode.{DatedCode}
use Rattle.follower.specs.declared.noted.NotedTime.{NotedTime}
use Rattle.follower.specs.Code.{has_address}
use Rattle.follower.specs.Catalogs.{at_number, number_of}

-- the number from which on something noted is so, by the clock of a moment
abbrev pub noted_by : Moment → NotedTime → ℕ
noted_by (Generation _) t = t.previous + 1
noted_by (Stamp _) t = t.since

-- it was noted at or before the moment
abbrev pub is_noted_by : Moment → NotedTime → Bool
is_noted_by moment t = nat_le (noted_by moment t) (number_of moment)

-- the code was gone by the moment
abbrev pub is_gone_by : Moment → DatedCode → Bool
is_gone_by moment d = option_map_or (is_noted_by moment) d.gone false

-- the code was there at the moment, and has the address
abbrev pub is_there : Moment → ℕ → DatedCode → Bool
is_there moment addr d =
    is_noted_by moment d.begun && not (is_gone_by moment d) && has_address addr d.code

-- the code that was there at the moment and has the address: of several the one noted last, which
-- comes first
unfoldable pub noted_at : List DatedCode → Moment → ℕ → Option DatedCode
noted_at codes moment addr = find (is_there moment addr) codes

-- the code begins there, and was not noted to be gone
abbrev pub stays_at : ℕ → DatedCode → Bool
stays_at start d = nat_eq d.code.start start && is_none d.gone

-- the code noted last of those that begin there and stay is gone from then on
pub record Ends (start : ℕ) (time : NotedTime) (old new : List DatedCode) : Type 0 where
  pub place : ℕ
  pub code : DatedCode
  pub newest : position (stays_at start) old ≡ Some place
  pub is : slice_get old place ≡ Some code
  pub ended : new ≡ slice_set old place (record code { gone = Some time })

-- what was gone by the moment is left out
abbrev pub without_gone : Moment → List DatedCode → List DatedCode
without_gone moment codes = filter (λ d. not (is_gone_by moment d)) codes

-- at the moment, and at each later one of its clock, each address has the same code
abbrev pub AreSameFrom : Moment → List DatedCode → List DatedCode → Type 0
AreSameFrom moment old new =
    (later addr : ℕ) → number_of moment ≤ later
    → noted_at new (at_number moment later) addr ≡ noted_at old (at_number moment later) addr
