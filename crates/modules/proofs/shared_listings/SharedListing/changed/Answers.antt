use Rattle.modules.proofs.Words.{◌≡◌, ap, ◌∙◌, arith, common_steps}
use Rattle.modules.proofs.ListingPartLemmas.{parts_changed}
use Rattle.modules.proofs.SharedRunLemmas.{lines_of_shared-append}
use Rattle.modules.specs.ListingParts.{changed_lines, changed_parts, ListingParts}
use Rattle.modules.specs.SharedRuns.{listing_view, lines_of_shared}
use Rattle.modules.proofs.shared_listings.SharedListing.changed.Goals as goal

-- the parts that are made
made_here : (c : goal.In_ok-share) → ◌≡◌ {A = ListingParts} (record {
  kernel = c.in_ok-from_slice.field-0.items;
  symbols = c.in_ok-share.field-0;
  kernel_lines = c.self.inside.kernel_lines;
  lines = lines_of_shared c.append.new.self.items;
}) (changed_parts c.args.named.now c.args.added (listing_view c.self.inside))
made_here c =
    let lines : lines_of_shared c.append.new.self.items
    ≡ changed_lines c.args.named.now c.args.added (lines_of_shared c.self.inside.runs.items) =
    grind (arith, common_steps, lines_of_shared-append) in
    grind (arith, common_steps)

pub invariant_of-result : goal.invariant_of-result
invariant_of-result c =
    let named = c.args.named.now in
    let added = c.args.added in
    record {
      names = c.self.invariant.names;
      listed = changed_lines named added c.self.invariant.listed;
      parts = made_here c ∙ ap (changed_parts named added) c.self.invariant.parts
          ∙ parts_changed named added c.self.invariant.listed c.self.invariant.names;
      counted = grind (arith, common_steps);
    }
