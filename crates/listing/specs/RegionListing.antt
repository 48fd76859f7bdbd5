-- What a listing of regions says: the regions, or the number of the first line that is not in the
-- grammar.
use Rattle.std.specs.Prelude.{◌≡◌, ◌⊎◌, ℕ, Bool, true, false, nat_lt, if◌then◌else◌, List, [], ◌∷◌}
use Rattle.std.specs.Prelude.{length, Option, Some, None, Result, Err}
use Rattle.std.specs.Str.{bytes_eq}
use Rattle.modules.specs.Lines.{region_fits}
use Rattle.modules.specs.Listed.{ListedRegion}
use Rattle.modules.specs.declared.lines.Part.{Part}
use Rattle.modules.specs.declared.lines.Part.TheVariants.{Core, Init}
use Rattle.listing.specs.declared.region_listing.TheConstants.{CORE, HEADER, INIT}
use Rattle.texts.specs.Lines.{lines_of, words_of}
use Rattle.texts.specs.Numbers.{number_of}
use Rattle.texts.specs.Said.{entries_from}
use Rattle.texts.specs.Understood.{AreSaidBy, IsFirstBadFrom}

-- the part of a module that a word names
abbrev pub part_of : List ℕ → Option Part
part_of word =
    if bytes_eq word CORE.now then Some Core
    else if bytes_eq word INIT.now then Some Init
    else None

-- a region, if there is one of this size at this address
abbrev pub placed_region : ListedRegion → Option ListedRegion
placed_region r = if region_fits r then Some r else None

-- the region of this name, if its part, its base and its size are there
abbrev pub region_of_parts : List ℕ → Option Part → Option ℕ → Option ℕ → Option ListedRegion
region_of_parts name (Some part) (Some base) (Some size) =
    placed_region (record { name = name; part = part; base = base; size = size })
region_of_parts name _ _ _ = None

-- a name has at least one byte
abbrev pub region_with : List ℕ → List ℕ → List ℕ → List ℕ → Option ListedRegion
region_with name part base size =
    if nat_lt 0 (length name)
    then region_of_parts name (part_of part) (number_of base) (number_of size)
    else None

-- `NAME PART BASE SIZE`
abbrev pub region_of_words : List (List ℕ) → Option ListedRegion
region_of_words (name ∷ part ∷ base ∷ size ∷ []) = region_with name part base size
region_of_words _ = None

-- the region that a line after the first is, if it is one
abbrev pub region_by : List ℕ → Option ListedRegion
region_by line = region_of_words (words_of line)

-- the first line of a listing of regions
abbrev pub is_regions_header : List ℕ → Bool
is_regions_header line = bytes_eq line HEADER.now

-- line 1 is the header, even if there is no line
abbrev pub regions_of_lines : List (List ℕ) → Result (List ListedRegion) ℕ
regions_of_lines [] = Err 1
regions_of_lines (first ∷ lines) =
    if is_regions_header first then entries_from region_by 2 lines else Err 1

abbrev pub regions_of_text : List ℕ → Result (List ListedRegion) ℕ
regions_of_text text = regions_of_lines (lines_of text)

-- the first line is the header, each later line is in the grammar, and the regions are theirs
abbrev pub IsRegionListingBy : List (List ℕ) → List ListedRegion → Type 0
IsRegionListingBy [] regions = ⊥
IsRegionListingBy (first ∷ lines) regions =
    (is_regions_header first ≡ true) × AreSaidBy region_by lines regions

-- the line with this number is the first that is not in the grammar; a listing of no lines has a
-- bad line 1
abbrev pub IsFirstBadRegion : List (List ℕ) → ℕ → Type 0
IsFirstBadRegion [] n = n ≡ 1
IsFirstBadRegion (first ∷ lines) n =
    ((n ≡ 1) × (is_regions_header first ≡ false))
    ⊎ ((is_regions_header first ≡ true) × IsFirstBadFrom region_by 2 lines n)
