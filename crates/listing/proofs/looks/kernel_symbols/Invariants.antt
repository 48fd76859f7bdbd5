use Rattle.listing.proofs.Words.{◌≡◌, length, list_any, lines_of, is_kernel_symbol, is_of_kernel}
use Rattle.listing.proofs.Words.{symbols_in}
use Rattle.std.proofs.Common.{◌||◌}
use Rattle.listing.proofs.looks.kernel_symbols.Given as goal

-- what was seen, and what the rest has
abbrev pub invariant-loop-rest : goal.invariant-loop-rest
invariant-loop-rest l = record {
  any : (l.found.any || list_any is_of_kernel (symbols_in (lines_of l.rest)))
      ≡ list_any is_of_kernel (symbols_in (lines_of l.text));
  start : (l.found.start
      || list_any (is_kernel_symbol l.names.start) (symbols_in (lines_of l.rest)))
      ≡ list_any (is_kernel_symbol l.names.start) (symbols_in (lines_of l.text));
  end : (l.found.end || list_any (is_kernel_symbol l.names.end) (symbols_in (lines_of l.rest)))
      ≡ list_any (is_kernel_symbol l.names.end) (symbols_in (lines_of l.text));
}

abbrev pub decreases-loop-rest : goal.decreases-loop-rest
decreases-loop-rest l = length l.rest
