-- What the listings of a job and the file after them say.
use Rattle.std.specs.Prelude.{ℕ, [], ◌∷◌, ◌++◌, Option, Some, Result, Ok, Err, option_and_then}
use Rattle.std.specs.Option.{option_map}
use Rattle.listing.specs.Opening.{Given, Listed, listings_of}
use Rattle.command_parts.specs.Readings.{Failures}

-- the listings, and what the file after them says
pub record Inputs (X : Type 0) : Type 0 where
  pub listings : Listed
  pub said : X

abbrev pub inputs : {X : Type 0} → Listed → X → Inputs X
inputs listings said = record { listings = listings; said = said }

-- the inputs, or the first bad line of the file, as the place of that file and the number of the
-- line
abbrev pub inputs_with : {X : Type 0} → Listed → Result X ℕ → Result (Inputs X) (ℕ × ℕ)
inputs_with listings (Ok said) = Ok (inputs listings said)
inputs_with listings (Err n) = Err (3, n)

-- The inputs, if it is known what the file says. A bad region line is reported before it is read.
abbrev pub inputs_after : {X : Type 0} → Option (Result X ℕ) → Result Listed ℕ
    → Option (Result (Inputs X) (ℕ × ℕ))
inputs_after said (Ok listings) = option_map (inputs_with listings) said
inputs_after said (Err n) = Some (Err (2, n))

-- the inputs of listings with these texts
abbrev pub inputs_of : {X : Type 0} → Option (Result X ℕ) → Given
    → Option (Result (Inputs X) (ℕ × ℕ))
inputs_of said g = inputs_after said (listings_of g)

-- the inputs of listings whose texts may be known
abbrev pub known_inputs : {X : Type 0} → Option (Result X ℕ) → Option Given
    → Option (Result (Inputs X) (ℕ × ℕ))
known_inputs said known = option_and_then (inputs_of said) known

-- the counts of failed calls, of the file after the listings
abbrev pub failures_behind : Failures → ℕ → ℕ → Failures
failures_behind listings before after = listings ++ (before, after) ∷ []
