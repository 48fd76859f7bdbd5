-- What a log says itself of the kernel that wrote it: its place, and sizes of its functions, as in
-- `do_one+0x8/0x1f00`.
use Rattle.std.specs.Prelude.{ℕ, ◌+◌, ◌-◌, ◌^◌, ◌==◌, ◌&&◌, min, Bool, true, false}
use Rattle.std.specs.Prelude.{if◌then◌else◌, List, [], ◌∷◌, length, drop, take, codes, nat_eq}
use Rattle.std.specs.Prelude.{nat_le, nat_lt}
use Rattle.std.specs.Prelude.{Option, None, option_map, ⊤}
use Rattle.std.specs.List.{starts_with}
use Rattle.std.specs.Option.{option_map_or, option_or}
use Rattle.memchr.specs.Find.{OccursAt, is_byte, places}
use Rattle.logs.specs.Answering.{Answering}
use Rattle.logs.specs.KernelOffsets.{kernel_offset_in}
use Rattle.logs.specs.Places.{end_of, first_of}
use Rattle.logs.specs.Words.{digits_between}
use Rattle.logs.specs.declared.kernel_offsets.TheConstants.{OFFSET}
use Rattle.logs.specs.declared.kernel_reports.KernelReport.{KernelReport}
use Rattle.logs.specs.declared.kernel_reports.Said.{Said}
use Rattle.logs.specs.declared.kernel_reports.Said.TheVariants as said
use Rattle.logs.specs.declared.places.ByteClass.TheVariants as kind

-- ---- the functions of a line

-- the name and the size of a function
pub record SizeOfFunction : Type 0 where
  pub name : List ℕ
  pub size : ℕ

-- ` [MODULE]` begins a text
abbrev pub begins_module : List ℕ → Bool
begins_module text =
    starts_with nat_eq text (codes " [") && nat_lt 0 (first_of kind.Word (drop 2 text))

-- the size that the digits write which begin a text, unless ` [MODULE]` follows them
abbrev pub size_in : List ℕ → Option ℕ
size_in text =
    let n = first_of kind.Hexadecimal text in
    if begins_module (drop n text) then None else digits_between 1 16 (take n text)

-- the size of a text that begins with `OFF/0xSIZE`, and with `+0xOFF/0xSIZE`
abbrev pub size_behind_digits : List ℕ → Option ℕ
size_behind_digits text =
    let n = first_of kind.Hexadecimal text in
    if nat_lt 0 n && starts_with nat_eq (drop n text) (codes "/0x") then size_in (drop (n + 3) text)
    else None

abbrev pub size_behind : List ℕ → Option ℕ
size_behind text =
    if starts_with nat_eq text (codes "+0x") then size_behind_digits (drop 3 text) else None

-- the function whose name ends at a place of a line, if its size is said there
abbrev pub function_at : List ℕ → ℕ → Option SizeOfFunction
function_at line place =
    let name = end_of kind.Function (take place line) in
    if length name == 0 then None
    else option_map (λ size. record { name = name; size = size }) (size_behind (drop place line))

-- ---- what is counted of them

-- a count and one more, which stays at the greatest u64
abbrev pub one_more : ℕ → ℕ
one_more n = min (n + 1) (2 ^ 64 - 1)

-- nothing is said
abbrev pub nothing_said : KernelReport
nothing_said = record { offset = None; functions = 0; resized = 0 }

-- one more function that the listing has, of this size or of another one
abbrev pub with_size : Bool → KernelReport → KernelReport
with_size true r = record r { functions = one_more r.functions }
with_size false r =
    record r { functions = one_more r.functions; resized = one_more r.resized }

-- a function more, if the listing has it
abbrev pub with_function : Answering → KernelReport → SizeOfFunction → KernelReport
with_function answer r f =
    option_map_or (λ same. with_size same r) (answer.has_size f.name f.size) r

-- the function that ends at a place more, if one does; and those at more places
abbrev pub with_place : Answering → List ℕ → KernelReport → ℕ → KernelReport
with_place answer line r place = option_map_or (with_function answer r) (function_at line place) r

abbrev pub with_places : Answering → List ℕ → KernelReport → List ℕ → KernelReport
with_places answer line r [] = r
with_places answer line r (place ∷ more) =
    with_places answer line (with_place answer line r place) more

-- the functions of a line more: each ends at a `+`
abbrev pub with_functions : Answering → List ℕ → KernelReport → KernelReport
with_functions answer line r = with_places answer line r (places (is_byte 43) line)

-- What a line says more: the place of the kernel, if no line gave it before, and its functions.
abbrev pub reported : Answering → List ℕ → KernelReport → KernelReport
reported answer line r =
    with_functions answer line
    (record r { offset = option_or r.offset (kernel_offset_in line) })

-- a text occurs nowhere in the bytes
abbrev pub Lacks : List ℕ → List ℕ → Type 0
Lacks bytes text = (k : ℕ) → OccursAt bytes text k → ⊥

-- No text in the bytes may be the size of a function, or the place of the kernel.
abbrev pub SaysNothing : List ℕ → Type 0
SaysNothing bytes = Lacks bytes (codes "/0x") × Lacks bytes OFFSET.now

-- The bytes say no more of their kernel than this.
abbrev pub SaysAtMost : Said → List ℕ → Type 0
SaysAtMost said.Nothing bytes = SaysNothing bytes
SaysAtMost said.Sizes bytes = Lacks bytes OFFSET.now
SaysAtMost said.All bytes = ⊤

-- The listing is one of another build: two functions or more have another size.
abbrev pub is_of_another_build : KernelReport → Bool
is_of_another_build r = nat_le 2 r.resized
