use Rattle.modules.proofs.Words.{◌≡◌, ℕ, List, [], Option, sym, ap, ◌∙◌, subst, true, option_copied}
use Rattle.modules.proofs.Words.{arith, common_steps}
use Rattle.modules.proofs.Definitions.{Accepted, accepted_of, admission_view, AreApart}
use Rattle.modules.proofs.Definitions.{BoundNames, BuildCounts}
use Rattle.modules.proofs.Definitions.{catalog_with, counts_with, kept_counts, kernel_regions}
use Rattle.modules.proofs.Definitions.{lie_apart, ListedRegion, ListedSymbol}
use Rattle.modules.proofs.SoundnessLemmas.{built_in_of_accepted, kernel_apart}
use Rattle.modules.specs.ListingParts.{ListingParts}
use Rattle.modules.proofs.build.assemble.Goals as goal

lies_apart : (names : Option BoundNames) (lines : List ListedSymbol)
    → lie_apart (kernel_regions names lines) ≡ true
lies_apart names lines = grind (arith, common_steps, kernel_apart)

-- the kernel that module lines are accepted beside
kernel_is : (c : goal.In_ok-kernel)
    → c.in_ok-kernel.kernel.items ≡ kernel_regions (option_copied c.args.names) c.args.symbols
kernel_is c = c.in_ok-kernel.ensures.items ∙ c.deref.ensures.value
    ∙ ap (λ (q : ListingParts). q.kernel) (c.listing.view_is ∙ c.in_ok-listing.ensures)

pub accept_lines-requires-clause-kernel : goal.accept_lines-requires-clause-kernel
accept_lines-requires-clause-kernel c =
    subst AreApart (sym (kernel_is c)) (kernel_apart (option_copied c.args.names) c.args.symbols)

pub accept_lines-requires-clause-apart : goal.accept_lines-requires-clause-apart
accept_lines-requires-clause-apart c =
    ap lie_apart (kernel_is c) ∙ lies_apart (option_copied c.args.names) c.args.symbols

pub catalog_with-requires-clause-kernel : goal.catalog_with-requires-clause-kernel
catalog_with-requires-clause-kernel c =
    ap (λ (a : Accepted). a.built_in) c.in_ok-admission.ensures.accepted
    ∙ built_in_of_accepted c.in_ok-kernel.kernel.items c.args.regions.now c.args.modules.now
    ∙ c.in_ok-kernel.ensures.items
    ∙ c.deref.ensures.value
    ∙ ap (λ (q : ListingParts). q.kernel) c.listing.view_is

counts_from : (a b : Accepted) (regions : List ListedRegion) (symbols : List ListedSymbol)
    (lines kept : BuildCounts) → a ≡ b → lines ≡ counts_with a regions []
    → kept ≡ kept_counts a symbols
    → record lines { symbols = kept.symbols; stray = kept.stray } ≡ counts_with b regions symbols
counts_from a b regions symbols lines kept is lines_are kept_are = rw (lines_are, kept_are, is)

-- what was accepted
accepted_is : (c : goal.After-drop-listing-inside-4) → admission_view c.in_ok-admission.admission
    ≡ accepted_of (kernel_regions (option_copied c.args.names) c.args.symbols) c.args.regions.now
    c.args.modules.now
accepted_is c = c.in_ok-admission.ensures.accepted
    ∙ ap (λ (k : List (ℕ × ℕ)). accepted_of k c.args.regions.now c.args.modules.now)
    (c.in_ok-kernel.ensures.items ∙ c.deref.ensures.value
    ∙ ap (λ (q : ListingParts). q.kernel) (c.listing.view_is ∙ c.in_ok-listing.ensures))

pub returns-clause-built : goal.returns-clause-built
returns-clause-built c =
    (c.in_ok-catalog.ensures (option_copied c.args.names) c.args.symbols c.in_ok-listing.ensures).0
    ∙ ap (λ (a : Accepted). catalog_with a c.args.symbols) (accepted_is c)

pub returns-clause-counted : goal.returns-clause-counted
returns-clause-counted c =
    counts_from _ _ c.args.regions.now c.args.symbols c.in_ok-admission.lines c.in_ok-catalog.kept
    (accepted_is c) c.in_ok-admission.ensures.counted
    (c.in_ok-catalog.ensures (option_copied c.args.names) c.args.symbols c.in_ok-listing.ensures).1
