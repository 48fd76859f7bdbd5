use Rattle.latchsym_ffi.proofs.Words.{◌∙◌, ap, new_writer, first_reader}
use Rattle.latchsym_ffi.specs.Tables.{first_content}
use Rattle.latchsym_ffi.proofs.opening_tables.open_boxes.Goals as goal

pub returns-clause-opened : goal.returns-clause-opened
returns-clause-opened c =
    let empty = c.in_ok-content.ensures.opened in
    record {
      place = empty.place;
      layout = c.in_ok-layout.layout;
      wide = (c.in_ok-layout.ensures.capacity, c.in_ok-layout.ensures.limit);
      owned = c.in_ok-in_boxes.ensures.owner ∙ empty.owned
          ∙ ap (λ n. first_content c.args.owner (new_writer empty.place c.in_ok-layout.layout 0 n))
          c.in_ok-count.ensures.same;
      count = c.in_ok-in_boxes.ensures.count ∙ empty.count ∙ c.in_ok-count.ensures.same;
      each =
          c.in_ok-in_boxes.ensures.each (first_reader empty.place c.in_ok-layout.layout) empty.each;
    }
