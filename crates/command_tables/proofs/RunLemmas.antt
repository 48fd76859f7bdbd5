-- From the lines of a script, and from its text, to what its run returns: of `run_lines` and
-- `run_with` of runs.
use Rattle.command_tables.proofs.Words.{◌≡◌, ◌<◌, ◌≤◌, ℕ, List, [], Some, Result, Ok, Err, true}
use Rattle.command_tables.proofs.Words.{refl, sym, subst, Output, ScriptLine, script_of}
use Rattle.command_tables.proofs.Words.{CatalogEntries, Fault, Write, IsOpened, Listed}
use Rattle.command_tables.proofs.Words.{OpenedCatalog, Inputs, inputs, inputs_with, with_notes}
use Rattle.command_tables.proofs.Words.{HoldsOf, AnswersLines, AnswersRun, IsRunOf, IsServed}
use Rattle.command_tables.proofs.Words.{MayRun, TellsServed, status_of, IsAssigned, Assignments}
use Rattle.std.proofs.Common.{Option}
use Rattle.std.specs.Prelude.{IfSome}
use Rattle.latch_table.specs.Limits.{most_readers}
use Rattle.order_laws.specs.declared.refusals.Refusal.TheVariants as refusal
use Rattle.command_parts.specs.declared.fault.Fault.TheVariants.{Refused}
use Rattle.modules.specs.Listed.{BoundNames}
use Rattle.shared_lookup.specs.Followings.{FollowServed}
use Rattle.shared_lookup.specs.Readers.{EachHasLooked}
use Rattle.shared_lookup.specs.Servings.{EachHasOutcome, EachIsAnswered, EachIsFoundIn}
use Rattle.shared_lookup.specs.Servings.{IsWrongCount, MayServe}
use Rattle.shared_lookup.specs.declared.served.Served.{Served}

-- what came back of the lists of these lines is told
module _ {W : Type 0} (contents : W → Option (List ℕ)) (c : CatalogEntries) (readers : ℕ)
    (lines : List ScriptLine) (a : Assignments) (assigned : IsAssigned c readers lines a)
    (s : Served) (may : MayServe c a.keys.items)
    (outcomes : EachHasOutcome c a.changes.items s.changes.items)
    (follow : FollowServed c s.log.items a.changes.items s.changes.items)
    (answers : EachIsAnswered a.keys.items s.answers.items s.ended.items)
    (found : EachIsFoundIn s.log.items s.answers.items)
    (looked : EachHasLooked s.log.items s.answers.items s.readers.items)
    (wrong : IsWrongCount c a.changes.items s.changes.items s.answers.items s.log.items s.wrong)
    (w w' : Output W) where
  may_run : MayRun c readers
  may_run = (
    may.0,
    subst (λ n. 0 < n) assigned.keys.same may.1,
    subst (λ n. n ≤ most_readers) assigned.keys.same may.2,
  )

  pub served_answered : (r : Result ℕ Fault) → TellsServed contents c a.names.items s w w' r
      → AnswersLines contents c readers lines w w' r
  served_answered (Ok status) h =
      let served : IsServed c a s = record {
        outcomes = outcomes;
        follow = follow;
        answers = answers;
        found = found;
        looked = looked;
        whole = h.0;
        wrong = wrong;
      } in
      (may_run, (a, assigned, (s, served, h.1, h.2)))
  served_answered (Err (Refused refusal.OutOfMemory)) h = h.0
  served_answered (Err (Refused refusal.BadCapacity)) h = absurd h
  served_answered (Err Write) h =
      let served : IsServed c a s = record {
        outcomes = outcomes;
        follow = follow;
        answers = answers;
        found = found;
        looked = looked;
        whole = h.0;
        wrong = wrong;
      } in
      (may_run, (status_of s.wrong, (a, assigned, (s, served, refl, h.1))))
  served_answered (Err _) h = absurd h

-- the lines of the script are there
module _ {W : Type 0} (contents : W → Option (List ℕ)) (kernel : BoundNames) (l : Listed)
    (readers : ℕ) (text : List ℕ) (lines : List ScriptLine) (said : script_of readers text
    ≡ Ok lines) (o : OpenedCatalog) (is : IsOpened (Some kernel) true l o) (w w' : Output W) where
  abbrev known : Option (Result (Inputs (List ScriptLine)) (ℕ × ℕ))
  known = Some (inputs_with l (script_of readers text))

  holds : (P : Inputs (List ScriptLine) → Type 0) → P (inputs l lines) → IfSome known (HoldsOf P)
  holds P p = subst (λ r. HoldsOf P (inputs_with l r)) (sym said) p

  pub script_answered : (r : Result ℕ Fault) → AnswersLines contents o.catalog readers lines w w' r
      → AnswersRun contents kernel readers known [] w w' (with_notes o.notes r)
  script_answered (Ok status) h = (
    tt,
    h.1.2.3.1,
    holds (λ j.
        IsRunOf contents kernel readers w w' j (Ok (record { status = status; notes = o.notes })))
        (record {
          catalog = o.catalog;
          counts = o.built;
          said = is.said;
          may = h.0;
          run = h.1;
          noted = is.notes;
        }),
  )
  script_answered (Err (Refused refusal.OutOfMemory)) h = (tt, h)
  script_answered (Err (Refused refusal.BadCapacity)) h = (
    tt,
    h.0,
    holds (λ j. IsRunOf contents kernel readers w w' j (Err (Refused refusal.BadCapacity)))
        (o.catalog, o.built, is.said, h.1),
  )
  script_answered (Err Write) h =
      let (may, (status, run)) = h in (
        tt,
        run.2.3.0,
        holds (λ j. IsRunOf contents kernel readers w w' j (Err Write)) (
          status,
          o.notes,
          record {
            catalog = o.catalog;
            counts = o.built;
            said = is.said;
            may = may;
            run = run;
            noted = is.notes;
          },
        ),
      )
  script_answered (Err _) h = absurd h
