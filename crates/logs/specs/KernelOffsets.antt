-- What a log says itself of the place of its kernel: `Kernel Offset: 0x1a600000 from
-- 0xffffffff81000000`.
use Rattle.std.specs.Prelude.{ℕ, ◌+◌, ◌%◌, ◌^◌, List, [], ◌∷◌, drop, length, take, nat_eq}
use Rattle.std.specs.Prelude.{Option, None, option_and_then, if◌then◌else◌}
use Rattle.std.specs.List.{starts_with}
use Rattle.std.specs.Option.{option_map, option_or}
use Rattle.texts.specs.Numbers.{numeral}
use Rattle.logs.specs.Places.{first_of}
use Rattle.logs.specs.declared.places.ByteClass.TheVariants as kind
use Rattle.logs.specs.declared.kernel_offsets.KernelOffset.{KernelOffset}
use Rattle.logs.specs.declared.kernel_offsets.TheConstants.{FROM, OFFSET}

-- how many hexadecimal digits begin a text
abbrev pub digits_at : List ℕ → ℕ
digits_at text = first_of kind.Hexadecimal text

-- the number that they write, if they are 1 to 16
abbrev pub number_at : List ℕ → Option ℕ
number_at text = numeral 16 16 (take (digits_at text) text)

-- ` from 0xB` begins the text, after an offset of A bytes
abbrev pub from_at : ℕ → List ℕ → Option KernelOffset
from_at offset text =
    if starts_with nat_eq text FROM.now
    then option_map (λ from. record { offset = offset; from = from })
    (number_at (drop (length FROM.now) text))
    else None

-- `Kernel Offset: 0xA from 0xB` begins the text
abbrev pub kernel_offset_at : List ℕ → Option KernelOffset
kernel_offset_at text =
    let digits = drop (length OFFSET.now) text in
    if starts_with nat_eq text OFFSET.now
    then option_and_then (λ offset. from_at offset (drop (digits_at digits) digits))
    (number_at digits)
    else None

-- the first place of a log that says so
abbrev pub kernel_offset_in : List ℕ → Option KernelOffset
kernel_offset_in [] = None
kernel_offset_in (b ∷ log) = option_or (kernel_offset_at (b ∷ log)) (kernel_offset_in log)

-- the address at which the kernel lay
abbrev pub kernel_place : KernelOffset → ℕ
kernel_place k = (k.from + k.offset) % 2 ^ 64
