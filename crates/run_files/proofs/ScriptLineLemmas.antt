-- What a line of a script is.
use Rattle.run_files.proofs.Words.{cond, ◌≡◌, ℕ, ◌<◌, Bool, true, false, nat_lt, List, [], ◌∷◌}
use Rattle.run_files.proofs.Words.{length, map, Option, Some, None, Result, Ok, Err, MatchResult}
use Rattle.run_files.proofs.Words.{refl, sym, ap, ◌∙◌, subst, arith, All, IfOk, codes}
use Rattle.run_files.proofs.Words.{option_and_then, option_map_or, bytes_eq, words_of, between}
use Rattle.run_files.proofs.Words.{number_of, entries_from, GivesInGrammar, is_passed_over}
use Rattle.run_files.proofs.Words.{is_too_long, change_by, change_named, has_actor, lies_between}
use Rattle.run_files.proofs.Words.{look_with, most_writers, script_line_by, script_line_of}
use Rattle.run_files.proofs.Words.{are_entries, Words, ◌≢◌}
use Rattle.std.specs.Global.{Vec}
use Rattle.std.specs.List.{filter_map, cons_option}
use Rattle.std.proofs.lemmas.List.Elements.{All-cons}
use Rattle.texts.specs.declared.faults.LineFault.{LineFault}
use Rattle.texts.specs.declared.said.LineMeaning.{LineMeaning}
use Rattle.texts.specs.declared.said.LineMeaning.TheVariants.{Nothing, One, Bad}
use Rattle.run_files.specs.declared.scripts.ScriptLine.{ScriptLine}
use Rattle.run_files.specs.declared.scripts.ScriptLine.TheVariants.{Load, Unload, Init, Look}
use Rattle.texts.specs.Understood.{entry_by, AreSaidBy, IsFirstBadFrom}

-- ---- words of another number

pub line_other : (readers : ℕ) (words : Words) → length words ≢ 3
    → script_line_of readers (map (λ w. w.now) words) ≡ None
line_other readers (a ∷ b ∷ c ∷ []) other = absurd (other refl)
line_other readers _ other = refl

pub line_too_long : (readers : ℕ) (words : List (List ℕ)) → 3 < length words
    → script_line_of readers words ≡ None
line_too_long readers (a ∷ b ∷ c ∷ []) many = absurd (omega arith)
line_too_long readers _ many = refl

-- ---- the numbers of actors

module _ (readers : ℕ) where
  abbrev HasActor : Option ScriptLine → Type 0
  HasActor o = (l : ScriptLine) → o ≡ Some l → has_actor readers l ≡ true

  nobody : HasActor None
  nobody l e = absurd (cc)

  some_has : (x : ScriptLine) → has_actor readers x ≡ true → HasActor (Some x)
  some_has x is l e = let same : x ≡ l = cc in ap (has_actor readers) (sym same) ∙ is

  one_of : (b : Bool) (x : ScriptLine) (o : Option ScriptLine) → has_actor readers x ≡ true
      → HasActor o → HasActor (cond b (Some x) o)
  one_of true x o is other = some_has x is
  one_of false x o is other = other

  named_has : (b : Bool) (o : Option ScriptLine) → HasActor o → HasActor (cond b o None)
  named_has true o has = has
  named_has false o has = nobody

  change_has : (verb : List ℕ) (writer : ℕ) (name : List ℕ)
      → lies_between 1 most_writers writer ≡ true → HasActor (change_by verb writer name)
  change_has verb writer name is =
      named_has (nat_lt 0 (length name)) (change_named verb writer name)
      (one_of (bytes_eq verb (codes "load")) (Load writer name) _ is
      (one_of (bytes_eq verb (codes "unload")) (Unload writer name) _ is
      (one_of (bytes_eq verb (codes "init")) (Init writer name) None is nobody)))

  changed_if : (b : Bool) (verb : List ℕ) (writer : ℕ) (name : List ℕ)
      → lies_between 1 most_writers writer ≡ b
      → HasActor (option_and_then (λ w. change_by verb w name) (cond b (Some writer) None))
  changed_if true verb writer name is = change_has verb writer name is
  changed_if false verb writer name is = nobody

  changed : (verb name : List ℕ) (writer : Option ℕ)
      → HasActor (option_and_then (λ w. change_by verb w name) (between 1 most_writers writer))
  changed verb name None = nobody
  changed verb name (Some writer) =
      changed_if (lies_between 1 most_writers writer) verb writer name refl

  looked_if : (b : Bool) (reader : ℕ) (address : Option ℕ) → lies_between 1 readers reader ≡ b
      → HasActor (look_with (cond b (Some reader) None) address)
  looked_if true reader (Some address) is = some_has (Look reader address) is
  looked_if _ reader _ is = nobody

  looked : (reader address : Option ℕ) → HasActor (look_with (between 1 readers reader) address)
  looked None address = nobody
  looked (Some reader) address = looked_if (lies_between 1 readers reader) reader address refl

  either : (b : Bool) (x y : Option ScriptLine) → HasActor x → HasActor y → HasActor (cond b x y)
  either true x y p q = p
  either false x y p q = q

  words_have : (words : List (List ℕ)) → HasActor (script_line_of readers words)
  words_have (verb ∷ actor ∷ what ∷ []) =
      either (bytes_eq verb (codes "look")) _ _ (looked (number_of actor) (number_of what))
      (changed verb what (number_of actor))
  words_have _ = nobody

  entry_in : LineMeaning ScriptLine → Option ScriptLine
  entry_in said = elim said [ Nothing ↦ None | One entry ↦ Some entry | Bad ↦ None ]

  said_has : (long passed : Bool) (o : Option ScriptLine) → HasActor o
      → HasActor (entry_in
      (cond long Bad (cond passed Nothing (option_map_or (λ entry. One entry) o Bad))))
  unfolding entry_in
  said_has false false (Some x) has = has
  said_has _ _ _ has = nobody

  entry_has : (line : List ℕ) → HasActor (entry_by (script_line_by readers) line)
  unfolding entry_in
  entry_has line = said_has (is_too_long line) (is_passed_over line) (script_line_by readers line)
      (words_have (words_of line))

  all_with : (o : Option ScriptLine) (ls : List ScriptLine) → HasActor o
      → All (λ l. has_actor readers l ≡ true) ls
      → All (λ l. has_actor readers l ≡ true) (cons_option o ls)
  all_with None ls has all = all
  all_with (Some x) ls has all =
      All-cons (λ (l : ScriptLine). has_actor readers l ≡ true) x ls (has x refl) all

  all_have : (lines : List (List ℕ))
      → All (λ l. has_actor readers l ≡ true) (filter_map (entry_by (script_line_by readers)) lines)
  all_have [] = λ k d below. absurd (omega arith)
  all_have (line ∷ lines) = all_with (entry_by (script_line_by readers) line)
      (filter_map (entry_by (script_line_by readers)) lines) (entry_has line) (all_have lines)

  by_entries : (n : ℕ) (lines : List (List ℕ)) (said : Result (List ScriptLine) ℕ)
      (ls : List ScriptLine)
      → MatchResult said (AreSaidBy (script_line_by readers) lines)
      (IsFirstBadFrom (script_line_by readers) n lines) → said ≡ Ok ls
      → All (λ l. has_actor readers l ≡ true) ls
  by_entries n lines (Ok entries) ls (all, is) e =
      let same : entries ≡ ls = cc in
      subst (λ (xs : List ScriptLine). All (λ l. has_actor readers l ≡ true) xs) (sym is ∙ same)
      (all_have lines)
  by_entries n lines (Err number) ls bad e = absurd (cc)

  pub actors_are : (n : ℕ) (lines : List (List ℕ)) (ls : List ScriptLine)
      → entries_from (script_line_by readers) n lines ≡ Ok ls
      → All (λ l. has_actor readers l ≡ true) ls
  actors_are n lines ls e = by_entries n lines (entries_from (script_line_by readers) n lines) ls
      (are_entries (script_line_by readers) n lines) e

pub actors_are_given : (readers : ℕ) (r : Result (Vec ScriptLine) LineFault) (n : ℕ)
    (lines : List (List ℕ))
    → GivesInGrammar (λ (v : Vec ScriptLine). v.items) r
    (entries_from (script_line_by readers) n lines)
    → IfOk r (λ v. All (λ l. has_actor readers l ≡ true) v.items)
actors_are_given readers (Ok v) n lines is = actors_are readers n lines v.items is
actors_are_given readers (Err fault) n lines is = tt
