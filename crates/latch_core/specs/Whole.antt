-- Whole attempts: what one comes to, and after how many loads.
use Rattle.std.specs.Prelude.{◌≡◌, ℕ, suc, List, Some}
use Rattle.order_laws.specs.Orders.{Order}
use Rattle.word_layout.specs.Words.{at}
use Rattle.latch_core.specs.Attempts.{Outcome, Answer, Again, Reading, Load, Ends, attempt}
use Rattle.latch_core.specs.Attempts.{rest_after}
use Rattle.latch_core.specs.declared.attempts.AttemptOutcome.{AttemptOutcome}
use Rattle.latch_core.specs.declared.attempts.AttemptOutcome.TheVariants.{Answered, Failed}

-- what it comes to in words that nobody changes: each load gives what its word holds
abbrev pub outcome_in : List ℕ → Reading → Outcome
outcome_in m (Load w go) = outcome_in m (go (at m w))
outcome_in m (Ends out) = out

-- and after how many loads
abbrev pub loads_in : List ℕ → Reading → ℕ
loads_in m (Load w go) = suc (loads_in m (go (at m w)))
loads_in m (Ends out) = 0

-- what a whole attempt gives, as an outcome
abbrev pub outcome_of : AttemptOutcome → Outcome
outcome_of (Answered answer g) = Answer answer g
outcome_of Failed = Again

-- an attempt that loaded these values goes on with a load of this word
abbrev pub Wants : {K : Type 0} → Order K → ℕ → K → List ℕ → ℕ → Type 0
Wants o n k values word =
    (go : ℕ → Reading) × (rest_after (attempt o n k) values ≡ Some (Load word go))

-- or is not at its end yet
abbrev pub GoesOn : {K : Type 0} → Order K → ℕ → K → List ℕ → Type 0
GoesOn o n k values = (word : ℕ) × Wants o n k values word
