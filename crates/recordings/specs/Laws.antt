-- What a history has of modules after events, by the listing that was read after them.
use Rattle.std.specs.Prelude.{◌≡◌, ℕ, Bool, true, false, List, [], Some, is_some, flat_map}
use Rattle.std.specs.Prelude.{if◌then◌else◌}
use Rattle.std.specs.Option.{option_map_or}
use Rattle.std.specs.Str.{bytes_eq}
use Rattle.logs.specs.Lines.{lines}
use Rattle.histories.specs.Changes.{is_among}
use Rattle.histories.specs.ListingLines.{module_of, without_end}
use Rattle.recordings.specs.KernelEvents.{KernelEvent}
use Rattle.recordings.specs.ModuleLines.{text_of}
use Rattle.recordings.specs.Recordings.{BlockRead, BlockWritten, after_event, is_freed}
use Rattle.recordings.specs.Recordings.{is_listed_by}

-- a line is one of the module of this name
abbrev pub is_of : List ℕ → List ℕ → Bool
is_of name line = option_map_or (bytes_eq name) (module_of (without_end line)) false

-- the lines that a listing has of it
abbrev pub lines_of_name : List ℕ → List ℕ → List ℕ
lines_of_name name listing =
    flat_map (λ line. if is_of name line then line else []) (lines listing)

-- the lines that a history has of it, after what was written
abbrev pub lines_after : BlockWritten → List ℕ → List ℕ
lines_after p name = option_map_or (λ modules. text_of modules name) p.carried.modules []

-- An event of a block is about a module, comes after the first listing, and is not written as a
-- listing.
pub record IsOfModule (b : BlockRead) (p : BlockWritten) (e : KernelEvent) : Type 0 where
  pub listed : is_some p.carried.modules ≡ true
  pub named : is_among b.names e.name ≡ true
  pub own : is_listed_by p.carried e ≡ false

-- Of an event of a block after which this listing was read:
module _ (b : BlockRead) (text : List ℕ) (p : BlockWritten) (e : KernelEvent) where
  -- after it a history has of its module the lines of the listing, or none if it was freed;
  abbrev pub HasOwn : Type 0
  HasOwn =
      b.listing ≡ Some text → IsOfModule b p e
      → lines_after (after_event b p e) e.name
      ≡ (if is_freed e.kind then [] else lines_of_name e.name text)

  -- after the first change, of each module that no event of the block names, the listing's lines;
  abbrev pub HasOthers : Type 0
  HasOthers =
      b.listing ≡ Some text → IsOfModule b p e → p.has_change ≡ false
      → (after_event b p e).has_change ≡ true → (name : List ℕ) → is_among b.names name ≡ false
      → lines_after (after_event b p e) name ≡ lines_of_name name text

  -- and if it is written as a listing, the lines of the listing of every module.
  abbrev pub HasAll : Type 0
  HasAll =
      b.listing ≡ Some text → is_listed_by p.carried e ≡ true
      → (name : List ℕ) → lines_after (after_event b p e) name ≡ lines_of_name name text
