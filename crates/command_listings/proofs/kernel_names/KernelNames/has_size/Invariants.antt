use Rattle.command_listings.proofs.Words.{◌≡◌, ◌≤◌, ◌||◌, length, list_any, take}
use Rattle.command_listings.specs.KernelNames.{behind_last}
use Rattle.command_listings.specs.NameFilters.{number_of}
use Rattle.command_listings.specs.Sizes.{has_name, is_sized}
use Rattle.command_listings.proofs.kernel_names.KernelNames.has_size.Given as goal

abbrev pub invariant-loop-end : goal.invariant-loop-end
invariant-loop-end l = record {
  within : l.end ≤ length l.symbols;
  ends : l.end ≡ behind_last l.symbols (number_of l.name) l.end;
  named : list_any (has_name l.name) l.symbols
      ≡ (l.has_name || list_any (has_name l.name) (take l.end l.symbols));
  sized : list_any (is_sized l.index l.name l.size) l.symbols
      ≡ list_any (is_sized l.index l.name l.size) (take l.end l.symbols);
}

abbrev pub decreases-loop-end : goal.decreases-loop-end
decreases-loop-end l = l.end
