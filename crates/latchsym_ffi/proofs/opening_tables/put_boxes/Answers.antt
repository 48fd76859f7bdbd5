use Rattle.latchsym_ffi.proofs.Words.{◌∙◌, Some, ap, length, subst, sym, IfOk, new_writer}
use Rattle.latchsym_ffi.proofs.Words.{AreOpened, first_reader}
use Rattle.latchsym_ffi.proofs.opening_tables.put_boxes.Goals as goal

pub returns-in-Ok-clause-opened : goal.returns-in-Ok-clause-opened
returns-in-Ok-clause-opened c o nodes opened zero =
    let b = subst (λ r. IfOk r (AreOpened o nodes (length c.args.readers.now))) c.in-Ok.is opened in
    record {
      place = b.place;
      layout = b.layout;
      wide = b.wide;
      owned = c.put.ensures ∙ ap Some
          (b.owned ∙ ap (λ n. o (new_writer b.place b.layout 0 n)) (sym c.fill.ensures.count));
      each = c.fill.ensures.each (first_reader b.place b.layout) b.each;
    }
