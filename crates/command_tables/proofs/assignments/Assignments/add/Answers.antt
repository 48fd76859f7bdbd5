use Rattle.command_tables.proofs.Words.{◌≡◌, ℕ, List, [], ◌∷◌, ◌++◌, Some, None, Result, Ok, Err}
use Rattle.command_tables.proofs.Words.{sym, ap, ◌∙◌, refl, filter_map, ScriptLine, CatalogEntries}
use Rattle.command_tables.proofs.Words.{most_writers, Assignments, AreListed, IsAssigned, change_in}
use Rattle.command_tables.proofs.Words.{key_in, name_in}
use Rattle.std.proofs.Common.{IfOk}
use Rattle.facts.proofs.Lists.{one_given_more, none_given_more}
use Rattle.shared_lookup.specs.declared.changes.Change.{Change}
use Rattle.shared_lookup.specs.declared.changes.Change.TheVariants.{Load, Unload, DropInit}
use Rattle.command_tables.proofs.assignments.Assignments.add.Goals as goal

module _ {E : Type 0} (c : CatalogEntries) (readers : ℕ) (lines : List ScriptLine)
    (line : ScriptLine) (old new : Assignments) (were : IsAssigned c readers lines old) where
  changed : (writer : ℕ) (change : Change) (name : List ℕ) (r : Result (Unit {0}) E)
      → change_in c line ≡ Some (writer, change) → name_in line ≡ Some (writer, name)
      → key_in line ≡ None → new.keys ≡ old.keys
      → ((entries : List (ℕ × Change)) → AreListed most_writers entries old.changes.items → IfOk r
      (λ _. AreListed most_writers (entries ++ (writer, change) ∷ []) new.changes.items))
      → ((entries : List (ℕ × List ℕ)) → AreListed most_writers entries old.names.items
      → IfOk r (λ _. AreListed most_writers (entries ++ (writer, name) ∷ []) new.names.items))
      → IfOk r (λ _. IsAssigned c readers (lines ++ line ∷ []) new)
  changed writer change name (Ok u) is_change is_name is_key kept changes names = record {
    changes = rw (one_given_more (change_in c) lines line (writer, change) is_change)
        (changes _ were.changes);
    names = rw (one_given_more name_in lines line (writer, name) is_name) (names _ were.names);
    keys = rw (none_given_more key_in lines line is_key, kept) were.keys;
  }
  changed writer change name (Err e) is_change is_name is_key kept changes names = tt

  looked : (reader address : ℕ) (r : Result (Unit {0}) E)
      → change_in c line ≡ None → name_in line ≡ None → key_in line ≡ Some (reader, address)
      → new.changes ≡ old.changes → new.names ≡ old.names
      → IfOk r (λ _.
      AreListed readers (filter_map key_in lines ++ (reader, address) ∷ []) new.keys.items)
      → IfOk r (λ _. IsAssigned c readers (lines ++ line ∷ []) new)
  looked reader address (Ok u) is_change is_name is_key same_changes same_names keys = record {
    changes = rw (none_given_more (change_in c) lines line is_change, same_changes) were.changes;
    names = rw (none_given_more name_in lines line is_name, same_names) were.names;
    keys = rw (one_given_more key_in lines line (reader, address) is_key) keys;
  }
  looked reader address (Err e) is_change is_name is_key same_changes same_names keys = tt

pub returns-in-Load : goal.returns-in-Load
returns-in-Load c = λ lines were.
    let catalog = c.args.catalog.now in
    let writer = c.in-Load.writer in
    let call = c.add_change in
    changed catalog c.args.readers lines c.args.line.now c.args.self.now call.new.self were writer
    (Load c.number_for.result) c.in-Load.name call.result
    (ap (change_in catalog) c.in-Load.is ∙ ap (λ n. Some (writer, Load n))
    (sym c.number_for.ensures)) (ap name_in c.in-Load.is) (ap key_in c.in-Load.is)
    call.ensures.keys call.ensures.changes call.ensures.names

pub returns-in-Unload : goal.returns-in-Unload
returns-in-Unload c = λ lines were.
    let catalog = c.args.catalog.now in
    let writer = c.in-Unload.writer in
    let call = c.add_change-in-Unload in
    changed catalog c.args.readers lines c.args.line.now c.args.self.now call.new.self were writer
    (Unload c.number_for-in-Unload.result) c.in-Unload.name call.result
    (ap (change_in catalog) c.in-Unload.is ∙ ap (λ n. Some (writer, Unload n))
    (sym c.number_for-in-Unload.ensures)) (ap name_in c.in-Unload.is) (ap key_in c.in-Unload.is)
    call.ensures.keys call.ensures.changes call.ensures.names

pub returns-in-Init : goal.returns-in-Init
returns-in-Init c = λ lines were.
    let catalog = c.args.catalog.now in
    let writer = c.in-Init.writer in
    let call = c.add_change-in-Init in
    changed catalog c.args.readers lines c.args.line.now c.args.self.now call.new.self were writer
    (DropInit c.number_for-in-Init.result) c.in-Init.name call.result
    (ap (change_in catalog) c.in-Init.is ∙ ap (λ n. Some (writer, DropInit n))
    (sym c.number_for-in-Init.ensures)) (ap name_in c.in-Init.is) (ap key_in c.in-Init.is)
    call.ensures.keys call.ensures.changes call.ensures.names

pub returns-in-Look : goal.returns-in-Look
returns-in-Look c = λ lines were.
    let catalog = c.args.catalog.now in
    looked catalog c.args.readers lines c.args.line.now c.args.self.now _ were c.in-Look.reader
    c.in-Look.address c.enlist.result
    (ap (change_in catalog) c.in-Look.is) (ap name_in c.in-Look.is) (ap key_in c.in-Look.is) refl
    refl
    (c.enlist.ensures c.args.readers (filter_map key_in lines) were.keys)
