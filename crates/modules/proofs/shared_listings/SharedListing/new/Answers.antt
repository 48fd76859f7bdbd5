use Rattle.modules.proofs.Words.{◌≡◌, ℕ, List, ap, ◌∙◌, arith, common_steps, filter}
use Rattle.modules.proofs.Words.{option_copied}
use Rattle.modules.proofs.Definitions.{SymbolEntry, lies_in_any}
use Rattle.modules.proofs.ListingPartLemmas.{parts_made}
use Rattle.modules.specs.ListingParts.{ListingParts, parts_of}
use Rattle.modules.specs.SharedRuns.{lines_of_shared}
use Rattle.modules.proofs.shared_listings.SharedListing.new.Goals as goal
use Rattle.modules.proofs.shared_listings.SharedListing.new.Goals.{In_ok-new}

-- what was made are the parts of the listing
made : (c : In_ok-new) → ◌≡◌ {A = ListingParts} (record {
  kernel = c.in_ok-kernel.kernel.items;
  symbols = c.in_ok-new.field-0;
  kernel_lines = c.len-kernel_lines.result;
  lines = lines_of_shared c.in_ok-parted.parted.runs.items;
}) (parts_of (option_copied c.args.names) c.args.symbols)
made c =
    parts_made (option_copied c.args.names) c.args.symbols c.in_ok-kernel.kernel.items
    c.in_ok-parted.parted.kernel.items c.in_ok-new.field-0 c.len-kernel_lines.result
    (lines_of_shared c.in_ok-parted.parted.runs.items) c.in_ok-kernel.ensures
    c.in_ok-parted.ensures.kernel
    (c.in_ok-new.ensures ∙ c.lying_in-symbols.ensures ∙ ap (λ (rs : List (ℕ × ℕ)).
    filter (λ (s : SymbolEntry). lies_in_any rs s.addr) c.in_ok-parted.parted.kernel.items)
    c.deref.ensures.value)
    (c.len-kernel_lines.ensures ∙ c.in_ok-parted.parted.kernel.ok.0) c.in_ok-parted.ensures.runs

pub invariant_of-result : goal.invariant_of-result
invariant_of-result c = record {
  names = option_copied c.args.names;
  listed = c.args.symbols;
  parts = made (goal.at.invariant_of-result c).In_ok-new;
  counted = grind (arith, common_steps);
}

pub returns : goal.returns
returns c = made (goal.at.returns c).In_ok-new
