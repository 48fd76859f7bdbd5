use Rattle.command_listings.proofs.Words.{◌≡◌, ◌<◌, ℕ, length, IfSome, slice_get, slice_index_or}
use Rattle.command_listings.specs.KernelNames.{behind_last}
use Rattle.command_listings.specs.NameFilters.{number_of}
use Rattle.command_listings.proofs.kernel_names.KernelNames.of.Given as goal

abbrev pub invariant-loop-place : goal.invariant-loop-place
invariant-loop-place l = record {
  numbers : length l.last.items ≡ 1048576;
  places : length l.before.items ≡ l.place;
  last : (number : ℕ) → number < 1048576
      → slice_index_or l.last.items number 0 ≡ behind_last l.symbols number l.place;
  before : (p : ℕ) → p < l.place → IfSome (slice_get l.symbols p)
      (λ s. slice_index_or l.before.items p 0 ≡ behind_last l.symbols (number_of s.name) p);
}
