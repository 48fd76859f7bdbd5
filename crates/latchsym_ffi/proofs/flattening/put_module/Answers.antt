use Rattle.latchsym_ffi.proofs.Words.{◌≡◌, ◌∙◌, Bor, None, Option, Some, ap, arith, length, sym}
use Rattle.latchsym_ffi.proofs.Words.{option_copied, module_of, ModuleEntry}
use Rattle.latchsym_ffi.proofs.FlatteningLemmas.{items_of_module, more_items, no_items_more}
use Rattle.latchsym_ffi.proofs.flattening.put_module.Goals as goal

abbrev copied : Option (Bor ModuleEntry) → Option ModuleEntry
copied o = option_copied o

pub returns-in_default-clause-place : goal.returns-in_default-clause-place
returns-in_default-clause-place c =
    let none : module_of c.args.catalog.now c.args.number ≡ None =
    sym c.module.ensures ∙ ap copied c.in_default.is in
    c.requires.place ∙ ap length (sym (no_items_more c.args.catalog.now c.args.number none))

pub returns-in_default-clause-put : goal.returns-in_default-clause-put
returns-in_default-clause-put c = λ below.
    let none : module_of c.args.catalog.now c.args.number ≡ None =
    sym c.module.ensures ∙ ap copied c.in_default.is in
    record {
      items = below.items ∙ sym (no_items_more c.args.catalog.now c.args.number none);
      each = below.each;
    }

pub returns-clause-place : goal.returns-clause-place
returns-clause-place c =
    let there : module_of c.args.catalog.now c.args.number ≡ Some c.in-Some.«module».now =
    sym c.module.ensures ∙ ap copied c.in-Some.is in
    let regions = items_of_module c.args.catalog.now c.args.number c.in-Some.«module».now there in
    let next = more_items c.args.catalog.now c.args.number in
    omega (arith, c.put_regions-place.ensures.place, c.requires.place, regions, next)
