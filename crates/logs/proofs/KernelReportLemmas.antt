-- A line that says nothing of its kernel.
use Rattle.logs.proofs.Definitions.{◌⊎◌, inl, inr, kernel_offset_in, ◌≡◌, ◌<◌, ℕ, Bool, false, List}
use Rattle.logs.proofs.Definitions.{[], length, arith, refl, Some, codes, is_byte, nat_eq}
use Rattle.logs.proofs.Definitions.{starts_with, and_right}
use Rattle.std.proofs.Common.{Option, None, drop}
use Rattle.std.specs.Prelude.{nat_lt}
use Rattle.std.proofs.Common.{◌∷◌, ◌++◌, ◌==◌, cond, take, true}
use Rattle.std.proofs.lemmas.List.{drop_all}
use Rattle.std.specs.Option.{option_or}
use Rattle.logs.specs.KernelReports.{Lacks, SaysAtMost, SaysNothing, SizeOfFunction, function_at}
use Rattle.logs.specs.KernelReports.{size_behind_digits, with_place, with_places}
use Rattle.logs.specs.Places.{end_of, first_of}
use Rattle.logs.specs.declared.kernel_offsets.TheConstants.{OFFSET}
use Rattle.logs.specs.declared.kernel_reports.KernelReport.{KernelReport}
use Rattle.logs.specs.declared.kernel_reports.Said.{Said}
use Rattle.logs.specs.declared.kernel_reports.Said.TheVariants as said
use Rattle.logs.specs.declared.places.ByteClass.TheVariants as kind
use Rattle.memchr.specs.Find.{Nowhere, places, Passes as HasByte}
use Rattle.logs.specs.Answering.{Answering}
use Rattle.logs.specs.LogNames.{with_line}
use Rattle.logs.specs.declared.kernel_offsets.KernelOffset.{KernelOffset}
use Rattle.logs.specs.declared.log_names.LogNames.{LogNames}
use Rattle.logs.proofs.KernelOffsetLemmas.{never_said}
use Rattle.logs.proofs.TextLemmas.{behind_occurs, dropped_occurs, front_occurs, never_there}
use Rattle.logs.proofs.TextLemmas.{no_begin}

all_none : (b : Bool) → ◌≡◌ {A = Option SizeOfFunction} (cond b None None) None
all_none true = refl
all_none false = refl

-- a place behind a line
pub none_behind : (line : List ℕ) (place : ℕ) → length line < place → function_at line place ≡ None
none_behind line place behind = rw (drop_all place line (omega arith))
    (all_none (length (end_of kind.Function (take place line)) == 0))

-- places, and one more after them
pub places_then : (answer : Answering) (line : List ℕ) (r : KernelReport) (ps : List ℕ) (p : ℕ)
    → with_places answer line r (ps ++ p ∷ [])
    ≡ with_place answer line (with_places answer line r ps) p
places_then answer line r [] p = refl
places_then answer line r (q ∷ ps) p = places_then answer line (with_place answer line r q) ps p

or_none : (o : Option KernelOffset) → option_or o None ≡ o
or_none None = refl
or_none (Some k) = refl

-- ---- bytes that say nothing

-- what is nowhere in bytes is nowhere in a part of them
part_lacks : (front xs after text : List ℕ) → Lacks (front ++ (xs ++ after)) text → Lacks xs text
part_lacks front xs after text none k at = let (m, there) =
    behind_occurs front (xs ++ after) text k (front_occurs xs after text k at) in
    none m there

pub part_says_at_most : (most : Said) (front xs after : List ℕ)
    → SaysAtMost most (front ++ (xs ++ after)) → SaysAtMost most xs
part_says_at_most said.Nothing front xs after (size, offset) =
    (part_lacks front xs after _ size, part_lacks front xs after _ offset)
part_says_at_most said.Sizes front xs after offset = part_lacks front xs after _ offset
part_says_at_most said.All front xs after any = any

-- no `K` is there
pub lacks_without_letter : (bytes : List ℕ) → Nowhere (HasByte (is_byte 75) bytes) 0 (length bytes)
    → Lacks bytes OFFSET.now
lacks_without_letter bytes none =
    never_there (is_byte 75) OFFSET.now 0 bytes (omega arith) refl none

either : (b : Bool) (o : Option ℕ) → o ≡ None → cond b o None ≡ None
either true o none = none
either false o none = refl

-- no size is said there, nor a function
no_size_behind : (text : List ℕ) → Lacks text (codes "/0x") → size_behind_digits text ≡ None
no_size_behind text none =
    let n = first_of kind.Hexadecimal text in
    rw (
      no_begin (drop n text) (codes "/0x")
          (λ k at. let (m, there) = dropped_occurs n text (codes "/0x") k at in none m there),
      and_right (nat_lt 0 n) false refl,
    ) refl

no_function : (line : List ℕ) (place : ℕ) → Lacks line (codes "/0x") → function_at line place ≡ None
no_function line place none =
    rw (either (starts_with nat_eq (drop place line) (codes "+0x")) (size_behind_digits
    (drop 3 (drop place line))) (no_size_behind (drop 3 (drop place line)) later))
    (all_none (length (end_of kind.Function (take place line)) == 0))
  where
    later : Lacks (drop 3 (drop place line)) (codes "/0x")
    later k at =
        let (m, there) = dropped_occurs 3 (drop place line) (codes "/0x") k at in
        let (n, here) = dropped_occurs place line (codes "/0x") m there in
        none n here

no_functions : (answer : Answering) (line : List ℕ) → Lacks line (codes "/0x")
    → (r : KernelReport) (ps : List ℕ) → with_places answer line r ps ≡ r
no_functions answer line none r [] = refl
no_functions answer line none r (p ∷ ps) =
    rw (no_function line p none) (no_functions answer line none r ps)

pub none_said : (line : List ℕ) → ◌⊎◌ (SaysNothing line) (Lacks line OFFSET.now)
    → kernel_offset_in line ≡ None
none_said line (inl (size, offset)) = never_said line offset
none_said line (inr offset) = never_said line offset

pub nothing_reported : (answer : Answering) (line : List ℕ) (names : LogNames) → SaysNothing line
    → with_line answer line names ≡ names
nothing_reported answer line names (size, offset) =
    rw (
      never_said line offset,
      or_none names.kernel.offset,
      no_functions answer line size names.kernel (places (is_byte 43) line),
    ) refl

-- no bytes
pub nothing_there : SaysNothing []
nothing_there = (λ k at. absurd (omega (arith, at.fits)), λ k at. absurd (omega (arith, at.fits)))
