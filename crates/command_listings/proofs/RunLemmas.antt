-- Which lines a listing may name, line by line.
use Rattle.command_listings.proofs.Words.{◌≡◌, ◌∙◌, ℕ, ◌+◌, ◌-◌, Bool, true, false, List, [], ◌∷◌}
use Rattle.command_listings.proofs.Words.{◌++◌, length, take, refl, sym, ap, arith, append_assoc}
use Rattle.command_listings.proofs.Words.{append-nil, length-append}
use Rattle.std.specs.Prelude.{filter}
use Rattle.std.proofs.Math.Seq.{take-append-add, take-append_seam}
use Rattle.logs.proofs.LineLemmas.{last_line, line_has_end, line_then, no_end_behind, opened_line}
use Rattle.logs.specs.Annotation.{IsOpen}
use Rattle.logs.specs.Lines.{IsLine, has_end}
use Rattle.logs.specs.declared.annotator.Annotator.{Annotator}
use Rattle.histories.specs.Grammar.{HistoryPart}
use Rattle.command_listings.specs.LineRuns.{IsRun, IsRunAfter, ended_in, may_name, times_behind}
use Rattle.command_listings.specs.LineRuns.{times_over}
use Rattle.command_listings.specs.declared.line_runs.LogTimes.{LogTimes}

-- a line that ends, and then others
pub ended_then : (line more : List ℕ) → IsLine line → ended_in (line ++ more) ≡ line ∷ ended_in more
ended_then line more is =
    ap (filter has_end) (line_then line more is) ∙ rw (line_has_end line is) refl

-- no line ends
pub none_ended_in : (bytes : List ℕ) → has_end bytes ≡ false → ended_in bytes ≡ []
none_ended_in [] unended = refl
none_ended_in (b ∷ bytes) unended =
    ap (filter has_end) (last_line b bytes unended) ∙ rw unended refl

-- the bytes before a rest
pub before_rest : (bytes done rest : List ℕ) → bytes ≡ done ++ rest
    → take (length bytes - length rest) bytes ≡ done
before_rest bytes done rest is =
    rw is (ap (λ n. take n (done ++ rest)) (omega (arith, length-append done rest))
    ∙ take-append_seam done rest)

module _ (parts : List HistoryPart) (narrow : Bool) (count : ℕ) where
  -- a line, and then others
  pub run_first : (t t' t'' : LogTimes) (line : List ℕ) (more : List (List ℕ))
      → may_name parts narrow count t line ≡ true → t' ≡ times_behind narrow t line
      → IsRun parts narrow count t' t'' more → IsRun parts narrow count t t'' (line ∷ more)
  run_first t t' t'' line more named same (all, over) =
      (rw (named, ← same) all, over ∙ ap (λ t. times_over narrow t more) same)

  -- These bytes follow others, all of whose lines it names: a run that begins behind them is one
  -- from their beginning on.
  abbrev pub GoesOnTo : LogTimes → LogTimes → List ℕ → Type 0
  GoesOnTo t t' done =
      (named : List ℕ) (t'' : LogTimes) → IsRun parts narrow count t' t'' (ended_in named)
      → IsRun parts narrow count t t'' (ended_in (done ++ named))

  pub goes_nowhere : (t : LogTimes) → GoesOnTo t t []
  goes_nowhere t = λ named t'' run. run

  pub goes_on : (t t' t'' : LogTimes) (done line : List ℕ) → IsLine line
      → may_name parts narrow count t' line ≡ true → t'' ≡ times_behind narrow t' line
      → GoesOnTo t t' done → GoesOnTo t t'' (done ++ line)
  goes_on t t' t'' done line is named same before = λ more last run.
      let one : IsRun parts narrow count t' last (line ∷ ended_in more) =
      run_first t' t'' last line (ended_in more) named same run in
      let whole : IsRun parts narrow count t' last (ended_in (line ++ more)) =
      rw (ended_then line more is) one in
      rw (append_assoc done line more) (before (line ++ more) last whole)

  -- nothing more is named
  pub goes_no_further : (t t' : LogTimes) (done : List ℕ) → GoesOnTo t t' done
      → IsRun parts narrow count t t' (ended_in done)
  goes_no_further t t' done before = rw (append-nil done) at (before [] t' (refl, refl))

  -- the rest has no line that ends
  pub goes_to_rest : (t t' : LogTimes) (done rest : List ℕ) → has_end rest ≡ false
      → GoesOnTo t t' done → IsRun parts narrow count t t' (ended_in (done ++ rest))
  goes_to_rest t t' done rest unended before =
      before rest t' (rw (none_ended_in rest unended) (refl, refl))

  -- after a line that is open, bytes that end it and then others
  pub opened_run : (a : Annotator) (t t' t'' : LogTimes) (line more : List ℕ) → IsLine line
      → ((begun : List ℕ) → IsOpen a begun → (may_name parts narrow count t (begun ++ line) ≡ true)
      × (t' ≡ times_behind narrow t (begun ++ line)))
      → IsRun parts narrow count t' t'' (ended_in more)
      → IsRunAfter parts narrow count a t t'' (line ++ more)
  opened_run a t t' t'' line more is named run = λ begun is_open.
      let whole = opened_line begun line is_open.no_end is in
      let (may, same) = named begun is_open in
      rw (ap ended_in
      (sym (append_assoc begun line more)) ∙ ended_then (begun ++ line) more whole)
      (run_first t t' t'' (begun ++ line) (ended_in more) may same run)

  -- and bytes in which no line ends
  pub unended_run : (a : Annotator) (t : LogTimes) (bytes : List ℕ) → has_end bytes ≡ false
      → IsRunAfter parts narrow count a t t bytes
  unended_run a t bytes unended = λ begun is_open.
      rw (none_ended_in (begun ++ bytes) (no_end_behind begun bytes is_open.no_end unended))
      (refl, refl)

  -- after a line that is open, nothing
  pub nothing_run : (a : Annotator) (t : LogTimes) → IsRunAfter parts narrow count a t t []
  nothing_run a t = unended_run a t [] refl

-- the bytes before a rest that follows two parts
pub two_before : (bytes line more named left : List ℕ) → bytes ≡ line ++ more → more ≡ named ++ left
    → take (length line + length named) bytes ≡ line ++ named
two_before bytes line more named left is also =
    rw (is, also, take-append-add line (named ++ left) (length named))
    (ap (λ b. line ++ b) (take-append_seam named left))
