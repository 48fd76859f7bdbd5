-- The commands that lines of a trace are.
use Rattle.std.specs.Prelude.{ℕ, Bool, ◌&&◌, List, [], ◌∷◌, codes, Option, Some, None}
use Rattle.std.specs.Prelude.{if◌then◌else◌}
use Rattle.std.specs.Option.{option_map}
use Rattle.std.specs.Str.{bytes_eq}
use Rattle.table_updates.specs.declared.updates.Update.TheVariants.{Insert, Erase, Batch}
use Rattle.latch_steps.specs.declared.commands.Command.{Command}
use Rattle.latch_steps.specs.declared.commands.Command.TheVariants.{Begin, Write, WriteFlip}
use Rattle.latch_steps.specs.declared.commands.Command.TheVariants.{WriteEnd, Start, Read}
use Rattle.order_laws.specs.declared.items.Item.{Item}
use Rattle.run_files.specs.declared.header.Version.{Version}
use Rattle.run_files.specs.Batch.{batch_of}
use Rattle.run_files.specs.Header.{has_batches}
use Rattle.texts.specs.Lines.{words_of}
use Rattle.texts.specs.Numbers.{number_of, short_number_of, count_of}

-- `insert LO HI TAG`
abbrev pub insert_with : Option ℕ → Option ℕ → Option ℕ → Option (Command ℕ)
insert_with (Some low) (Some high) (Some tag) =
    Some (Begin (Insert (record { a = low; b = high; tag = tag })))
insert_with _ _ _ = None

abbrev pub insert_of : List (List ℕ) → Option (Command ℕ)
insert_of (low ∷ high ∷ tag ∷ []) = insert_with (number_of low) (number_of high) (number_of tag)
insert_of _ = None

-- `erase LO`
abbrev pub erase_with : Option ℕ → Option (Command ℕ)
erase_with low = option_map (λ a. Begin (Erase a)) low

abbrev pub erase_of : List (List ℕ) → Option (Command ℕ)
erase_of (low ∷ []) = erase_with (number_of low)
erase_of _ = None

-- `write flip`, `write end` and `write K`
abbrev pub write_with : List ℕ → Option (Command ℕ)
write_with steps =
    if bytes_eq steps (codes "flip") then Some WriteFlip
    else if bytes_eq steps (codes "end") then Some WriteEnd
    else option_map (λ k. Write k) (count_of steps)

abbrev pub write_of : List (List ℕ) → Option (Command ℕ)
write_of (steps ∷ []) = write_with steps
write_of _ = None

-- `start R ADDR`
abbrev pub start_with : Option ℕ → Option ℕ → Option (Command ℕ)
start_with (Some reader) (Some key) = Some (Start reader key)
start_with _ _ = None

abbrev pub start_of : List (List ℕ) → Option (Command ℕ)
start_of (reader ∷ key ∷ []) = start_with (short_number_of reader) (number_of key)
start_of _ = None

-- `read R K`
abbrev pub read_with : Option ℕ → Option ℕ → Option (Command ℕ)
read_with (Some reader) (Some loads) = Some (Read reader loads)
read_with _ _ = None

abbrev pub read_of : List (List ℕ) → Option (Command ℕ)
read_of (reader ∷ loads ∷ []) = read_with (short_number_of reader) (count_of loads)
read_of _ = None

-- the command that the words of a line are, if they are one
abbrev pub command_of : List (List ℕ) → Option (Command ℕ)
command_of [] = None
command_of (word ∷ words) =
    if bytes_eq word (codes "insert") then insert_of words
    else if bytes_eq word (codes "erase") then erase_of words
    else if bytes_eq word (codes "write") then write_of words
    else if bytes_eq word (codes "start") then start_of words
    else if bytes_eq word (codes "read") then read_of words
    else None

-- `batch E I ..`
abbrev pub batch_command : Option (List ℕ × List Item) → Option (Command ℕ)
batch_command (Some (erase, insert)) = Some (Begin (Batch erase insert))
batch_command None = None

-- the command of a line, if the trace may have lines `batch` or not
abbrev pub command_with : Bool → List (List ℕ) → Option (Command ℕ)
command_with batches [] = None
command_with batches (word ∷ words) =
    if batches && bytes_eq word (codes "batch")
    then batch_command (batch_of words)
    else command_of (word ∷ words)

-- the command that a line is, if it is one, in a trace of this version
abbrev pub command_by : Version → List ℕ → Option (Command ℕ)
command_by version line = command_with (has_batches version) (words_of line)
