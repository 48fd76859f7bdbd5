-- The place of an address word in its line.
-- Before it come a prefix, as a time stamp, what may begin a line, and its marks. After another
-- address word of the line only the bytes between the two are looked at.
use Rattle.std.specs.Prelude.{ℕ, suc, zero, ◌+◌, ◌-◌, ◌==◌, ◌||◌, ◌&&◌, not, Bool, true, false}
use Rattle.std.specs.Prelude.{if◌then◌else◌, List, [], ◌∷◌, length, drop, take, codes, nat_eq}
use Rattle.std.specs.Prelude.{nat_lt, reverse}
use Rattle.std.specs.List.{list_any, starts_with, ends_with}
use Rattle.std.specs.Char.{is_digit}
use Rattle.std.specs.Str.{bytes_eq}
use Rattle.logs.specs.Words.{is_word_byte, run_of}
use Rattle.logs.specs.declared.places.ByteClass.{ByteClass}
use Rattle.logs.specs.declared.places.ByteClass.TheVariants as kind
use Rattle.logs.specs.declared.places.TheConstants.{FROM, HIDDEN, IS_AT, KERNEL, LONGER_TIME, TIME}

-- a byte is of a kind
abbrev pub is_of : ByteClass → ℕ → Bool
is_of kind.Word b = is_word_byte b
is_of kind.Digit b = is_digit b 10
is_of kind.Mark b = b == 40 || b == 60 || b == 91
is_of kind.LabelGap b = b == 32 || b == 58 || b == 61 || b == 40 || b == 60 || b == 91
is_of kind.Blank b = b == 32 || b == 9
is_of kind.NoBlank b = not (b == 32 || b == 9)
is_of kind.Space b = b == 32
is_of kind.NoBracket b = not (b == 91 || b == 93)
is_of kind.Closing b = b == 32 || b == 9 || b == 13 || b == 10
is_of kind.ColonGap b = b == 32 || b == 58
is_of kind.Record b = not (b == 32 || b == 9 || b == 59)
is_of kind.NoComma b = not (b == 44)
is_of kind.Tag b = is_word_byte b || b == 47 || b == 35
is_of kind.Colour b = is_digit b 10 || b == 59
is_of kind.Said b = nat_lt 32 b && not (b == 40 || b == 41)
is_of kind.Group b = not (b == 91 || b == 93 || b == 60 || b == 62)
is_of kind.Name b = nat_lt 32 b && not (b == 40 || b == 41 || b == 43)
is_of kind.Hexadecimal b = is_digit b 16
is_of kind.Function b = is_word_byte b || b == 46 || b == 36

-- how many bytes of a kind the bytes begin with, and how many they end in
abbrev pub first_of : ByteClass → List ℕ → ℕ
first_of k bytes = run_of (λ b. is_of k b) bytes

abbrev pub last_of : ByteClass → List ℕ → ℕ
last_of k bytes = run_of (λ b. is_of k b) (reverse bytes)

-- the bytes without the latter; and these
abbrev pub without_end : ByteClass → List ℕ → List ℕ
without_end k bytes = take (length bytes - last_of k bytes) bytes

abbrev pub end_of : ByteClass → List ℕ → List ℕ
end_of k bytes = drop (length bytes - last_of k bytes) bytes

-- The last word is `ra`, `lr`, `LR` or `from`.
abbrev pub ends_in_label : List ℕ → Bool
ends_in_label bytes =
    let word = end_of kind.Word bytes in
    bytes_eq word (codes "ra") || bytes_eq word (codes "lr") || bytes_eq word (codes "LR")
    || bytes_eq word FROM.now

-- A `<-` comes directly before the address, or `[<0>]` and blanks; or only blanks, `:`, `=` and
-- marks come after the last word, and it is a label, or one and ` is at`, or `at` or `in` with a
-- `:` directly after it.
abbrev pub has_label : List ℕ → Bool
has_label before =
    let head = without_end kind.LabelGap before in
    let word = end_of kind.Word head in
    ends_with nat_eq before (codes "<-")
    || ends_with nat_eq (without_end kind.Space before) HIDDEN.now
    || ends_in_label head
    || (ends_with nat_eq head IS_AT.now
    && ends_in_label (take (length head - length IS_AT.now) head))
    || (starts_with nat_eq (drop (length head) before) (codes ":")
    && (bytes_eq word (codes "at") || bytes_eq word (codes "in")))

-- the bytes begin with a shape, in which `0` is any digit
abbrev pub begins_like : List ℕ → List ℕ → Bool
begins_like [] bytes = true
begins_like (sign ∷ shape) [] = false
begins_like (sign ∷ shape) (b ∷ bytes) =
    (if sign == 48 then is_digit b 10 else b == sign) && begins_like shape bytes

-- a digit, `.` or `:`, and a digit follow each other in the bytes
abbrev pub has_point : List ℕ → Bool
has_point [] = false
has_point (b ∷ bytes) =
    begins_like (codes "0.0") (b ∷ bytes) || begins_like (codes "0:0") (b ∷ bytes)
    || has_point bytes

-- the bytes have a time of day with no digit or `:` before it and no `:` after it
abbrev pub has_time : Bool → List ℕ → Bool
has_time within [] = false
has_time within (b ∷ bytes) =
    (not within && begins_like TIME.now (b ∷ bytes)
    && not (begins_like LONGER_TIME.now (b ∷ bytes)))
    || has_time (is_digit b 10 || b == 58) bytes

-- bytes end in a group in brackets in which a digit, `.` or `:`, and a digit follow each other
abbrev pub ends_in_stamp : List ℕ → Bool
ends_in_stamp bytes =
    let head = take (length bytes - 1) bytes in
    ends_with nat_eq bytes (codes "]")
    && ends_with nat_eq (without_end kind.NoBracket head) (codes "[")
    && has_point (end_of kind.NoBracket head)

-- nothing, or a blank or tab first
abbrev pub begins_blank : List ℕ → Bool
begins_blank [] = true
begins_blank (b ∷ bytes) = is_of kind.Blank b

-- bytes have two commas, and no blank, tab or `;`
abbrev pub is_record : List ℕ → Bool
is_record bytes =
    last_of kind.Record bytes == length bytes
    && list_any (λ b. b == 44) (drop 1 (drop (first_of kind.NoComma bytes) bytes))

-- such bytes from the line's start on, and `;`
abbrev pub ends_record : Bool → List ℕ → Bool
ends_record at_start bytes =
    at_start && ends_with nat_eq bytes (codes ";") && is_record (take (length bytes - 1) bytes)

-- A prefix may end between these bytes, which are from the line's start on or not: after the head
-- of a record, `kernel:`, such a group, or a time of day and what is glued to it.
abbrev pub ends_prefix : Bool → List ℕ → List ℕ → Bool
ends_prefix at_start front after =
    ends_record at_start front
    || (ends_with nat_eq front (codes ":")
    && bytes_eq (end_of kind.Word (take (length front - 1) front)) KERNEL.now)
    || ends_in_stamp front
    || (begins_blank after && has_time false (end_of kind.NoBlank front))

-- the last place, up to this one, at which a prefix ends
abbrev pub prefix_up_to : Bool → List ℕ → ℕ → ℕ
prefix_up_to at_start bytes zero = zero
prefix_up_to at_start bytes (suc p) =
    if ends_prefix at_start (take (suc p) bytes) (drop (suc p) bytes) then suc p
    else prefix_up_to at_start bytes p

-- the place of the prefix's end, or 0 without a prefix
abbrev pub prefix_end : Bool → List ℕ → ℕ
prefix_end at_start bytes = prefix_up_to at_start bytes (length bytes)

-- how long a run of a kind is with a byte before it and the one that closes it, or 0 without them
abbrev pub closed : ByteClass → List ℕ → List ℕ → ℕ
closed k close bytes =
    let n = first_of k bytes in
    if not (n == 0) && starts_with nat_eq (drop n bytes) close then n + 2 else 0

-- how long an escape sequence of colours is that has these bytes after its ESC, or 0
abbrev pub colour : List ℕ → ℕ
colour bytes =
    let n = first_of kind.Colour (drop 1 bytes) in
    if starts_with nat_eq bytes (codes "[")
    && starts_with nat_eq (drop n (drop 1 bytes)) (codes "m") then n + 3 else 0

-- The length of the item that may come before the first address of a line, or 0: a blank, tab, CR,
-- `?` or `>`; colours; `=>`; `#` and digits; a word in `<` and `>`, perhaps with `/` or `#` in it;
-- a group in brackets with a digit.
abbrev pub lead_item : List ℕ → ℕ
lead_item [] = 0
lead_item (b ∷ bytes) =
    if b == 32 || b == 9 || b == 13 || b == 63 || b == 62 then 1
    else if b == 27 then colour bytes
    else if b == 61 && starts_with nat_eq bytes (codes ">") then 2
    else if b == 35 && begins_like (codes "0") bytes then first_of kind.Digit bytes + 1
    else if b == 60 then closed kind.Tag (codes ">") bytes
    else if b == 91 && list_any (λ b. is_digit b 10) (take (first_of kind.Group bytes) bytes)
    then closed kind.Group (codes "]") bytes
    else 0

-- The bytes after this many are such items.
abbrev pub is_lead : ℕ → List ℕ → Bool
is_lead skipped [] = nat_eq skipped 0
is_lead (suc n) (b ∷ bytes) = is_lead n bytes
is_lead zero (b ∷ bytes) =
    not (lead_item (b ∷ bytes) == 0) && is_lead (lead_item (b ∷ bytes) - 1) bytes

-- blanks, `#` and a digit begin the bytes
abbrev pub begins_numbered : List ℕ → Bool
begins_numbered bytes = begins_like (codes "#0") (drop (first_of kind.Blank bytes) bytes)
