-- The grammar of the file of a history.
--
--     latchhistory 1
--     listing 0.5
--     ffffffff81000108 T do_one
--     ffffffffc0000010 t ext4_a<tab>[ext4]
--     change 7.360695
--     gone ext4
--     ffffffffc0000020 t xfs_a<tab>[xfs]
use Rattle.std.specs.Prelude.{ℕ, ◌+◌, ◌==◌, ◌||◌, ◌&&◌, not, Bool, true, false, if◌then◌else◌}
use Rattle.std.specs.Prelude.{nat_eq, nat_le, nat_lt, List, [], ◌∷◌, ◌++◌, length, drop, codes}
use Rattle.std.specs.Prelude.{Option, Some, None, is_some, Result, Ok, Err}
use Rattle.std.specs.List.{list_any, starts_with}
use Rattle.std.specs.List.Sorted.{IsNonDecreasingBy}
use Rattle.std.specs.Option.{option_map, option_map_or, option_or}
use Rattle.std.specs.Str.{bytes_eq}
use Rattle.listing.specs.SymbolListing.{cut_at}
use Rattle.histories.specs.LineTimes.{is_gap}
use Rattle.histories.specs.ListingLines.{is_of_kernel, without_end}
use Rattle.histories.specs.Times.{time_of}
use Rattle.histories.specs.declared.grammar.Header.{Header}

-- ---- words

-- nothing, or a gap first
abbrev pub begins_gap : List ℕ → Bool
begins_gap [] = true
begins_gap (b ∷ bytes) = is_gap b

-- the first word of the line
abbrev pub is_first_word : List ℕ → List ℕ → Bool
is_first_word word line = starts_with nat_eq line word && begins_gap (drop (length word) line)

-- a line that may begin so, by its first byte: `l`, `c` or `g`
abbrev pub may_be_reserved : List ℕ → Bool
may_be_reserved [] = false
may_be_reserved (b ∷ bytes) = b == 108 || b == 99 || b == 103

-- a line that is of no listing
abbrev pub is_reserved : List ℕ → Bool
is_reserved line =
    is_first_word (codes "listing") line || is_first_word (codes "change") line
    || is_first_word (codes "gone") line

-- ---- headers

abbrev pub header_at : Bool → Option ℕ → Option Header
header_at is_change time = option_map (λ t. record { is_change = is_change; time = t }) time

-- `listing TIME` or `change TIME`
abbrev pub header_of : List ℕ → Option Header
header_of line =
    if starts_with nat_eq line (codes "listing ") then header_at false (time_of (drop 8 line))
    else if starts_with nat_eq line (codes "change ") then header_at true (time_of (drop 7 line))
    else None

-- the TIME of a header as it is written: what follows the first blank
abbrev pub time_text : List ℕ → List ℕ
time_text line = option_map_or (λ parts. parts.1) (cut_at 32 line) []

-- the name in `gone NAME`, a word
abbrev pub gone_of : List ℕ → Option (List ℕ)
gone_of line =
    let name = drop 5 line in
    if starts_with nat_eq line (codes "gone ") && nat_lt 0 (length name)
    && not (list_any (λ b. b == 32) name || list_any (λ b. b == 9) name)
    then Some name
    else None

-- ---- what is understood

-- the first header is a listing's, and no time is below the one before it
abbrev pub may_follow : Option Header → Header → Bool
may_follow None header = not header.is_change
may_follow (Some before) header = nat_le before.time header.time

-- a line after this header: `gone NAME` only in a change, and in a change no line of the kernel
abbrev pub is_understood_after : Header → List ℕ → Bool
is_understood_after header line =
    if is_some (gone_of line) then header.is_change
    else not (is_reserved line) && not (header.is_change && is_of_kernel line)

-- a line after this header, or before any
abbrev pub is_understood : Option Header → List ℕ → Bool
is_understood header line = elim (header_of line) [
  | Some next ↦ may_follow header next
  | None ↦ option_map_or (λ h. is_understood_after h line) header false
]

-- the number of the first line that is not understood after this header, or before any; the first
-- line of all has the number n
abbrev pub first_bad : Option Header → ℕ → List (List ℕ) → Option ℕ
first_bad header n [] = None
first_bad header n (line ∷ more) =
    if is_understood header (without_end line)
    then first_bad (option_or (header_of (without_end line)) header) (n + 1) more
    else Some n

-- ---- the parts

-- a listing or a change: its header, its TIME as it is written, and the bytes of its lines
pub record HistoryPart : Type 0 where
  pub header : Header
  pub time_text : List ℕ
  pub text : List ℕ

-- the bytes before the first header
abbrev pub body_of : List (List ℕ) → List ℕ
body_of [] = []
body_of (line ∷ more) = elim (header_of (without_end line)) [
  | None ↦ line ++ body_of more
  | Some header ↦ []
]

-- each header, with the bytes up to the next one
abbrev pub parts_of : List (List ℕ) → List HistoryPart
parts_of [] = []
parts_of (line ∷ more) = elim (header_of (without_end line)) [
  | None ↦ parts_of more
  | Some header ↦ record {
    header = header;
    time_text = time_text (without_end line);
    text = body_of more;
  } ∷ parts_of more
]

-- no part has a time below the one of a part before it
abbrev pub AreInOrder : List HistoryPart → Type 0
AreInOrder parts = IsNonDecreasingBy (λ part. part.header.time) parts

-- the parts of these lines, if their first has this number; or the number of the first line that is
-- not understood
abbrev pub parts_from : ℕ → List (List ℕ) → Result (List HistoryPart) ℕ
parts_from first ls = option_map_or (λ n. Err n) (first_bad None first ls) (Ok (parts_of ls))

-- the parts of a history, whose first line is no part
abbrev pub history_of : List (List ℕ) → Result (List HistoryPart) ℕ
history_of [] = Err 1
history_of (first ∷ more) =
    if bytes_eq (without_end first) (codes "latchhistory 1") then parts_from 2 more else Err 1
