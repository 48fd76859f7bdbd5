-- Lines that are taken, or skipped for a cause.
use Rattle.std.specs.Prelude.{ℕ, ◌+◌, Bool, false, ◌==◌, List, map, Result, Ok, Err, count_by}
use Rattle.std.specs.Prelude.{slice_index, slice_set}
use Rattle.std.specs.List.{filter_map}
use Rattle.std.specs.Result.{result_ok}

-- what the lines are that are taken, in their order
abbrev pub taken_by : {T E : Type 0} → (List ℕ → Result T E) → List (List ℕ) → List T
taken_by said lines = filter_map (λ line. result_ok (said line)) lines

-- whether a line is skipped for this cause, which is known by its place
abbrev pub is_skipped_for : {T E : Type 0} → (E → ℕ) → E → Result T E → Bool
is_skipped_for place cause (Ok taken) = false
is_skipped_for place cause (Err other) = place other == place cause

-- how many lines are skipped for a cause
abbrev pub skipped_for : {T E : Type 0} → (E → ℕ) → (List ℕ → Result T E) → List (List ℕ) → E → ℕ
skipped_for place said lines cause = count_by (λ line. is_skipped_for place cause (said line)) lines

-- how many lines are skipped for each cause, in the order of the causes
abbrev pub counts_by : {T E : Type 0} → (E → ℕ) → List E → (List ℕ → Result T E)
    → List (List ℕ) → List ℕ
counts_by place causes said lines = map (skipped_for place said lines) causes

-- the counts with one more line that is skipped for the cause at a place
abbrev pub one_more_at : ℕ → List ℕ → List ℕ
one_more_at k counts = slice_set counts k (slice_index counts k + 1)
