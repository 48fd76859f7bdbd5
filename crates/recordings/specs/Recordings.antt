-- What is written of the events of a block, and what is carried on to the next.
use Rattle.std.specs.Prelude.{ℕ, Bool, true, false, not, ◌&&◌, ◌||◌, nat_lt, List, [], ◌∷◌, ◌++◌}
use Rattle.std.specs.Prelude.{codes, is_none, if◌then◌else◌, Option, Some, None}
use Rattle.std.specs.List.{filter_map, fold}
use Rattle.std.specs.Option.{option_map, option_map_or}
use Rattle.std.specs.Str.{bytes_eq}
use Rattle.logs.specs.Lines.{lines}
use Rattle.recordings.specs.Changes.{changed_names, modules_after}
use Rattle.recordings.specs.ChangeTexts.{change_lines, header_line}
use Rattle.recordings.specs.KernelEvents.{KernelEvent}
use Rattle.recordings.specs.ModuleLines.{SomeLines, modules_in, text_of}
use Rattle.recordings.specs.declared.events.EventKind.{EventKind}
use Rattle.recordings.specs.declared.events.EventKind.TheVariants.{Mark, MarkOf, Freed}
use Rattle.recordings.specs.declared.events.EventLine.{EventLine}

-- ---- the kinds of events

abbrev pub is_mark : EventKind → Bool
is_mark Mark = true
is_mark _ = false

abbrev pub is_mark_of : EventKind → Bool
is_mark_of MarkOf = true
is_mark_of _ = false

abbrev pub is_freed : EventKind → Bool
is_freed Freed = true
is_freed _ = false

-- ---- what is carried on

-- The lines of the modules in the history so far, if it has a listing; whether events were lost,
-- and none came after them; and the last TIME that was written.
pub record CarriedOn : Type 0 where
  pub modules : Option (List SomeLines)
  pub is_lost : Bool
  pub time : ℕ
  pub time_text : List ℕ

-- before all events
abbrev pub first_carried : CarriedOn
first_carried = record { modules = None; is_lost = false; time = 0; time_text = [] }

-- the TIME that is written for an event: its own, unless a later one was written before it
abbrev pub at_time : CarriedOn → KernelEvent → CarriedOn
at_time c e =
    if nat_lt e.time c.time then c else record c { time = e.time; time_text = e.time_text }

-- ---- a block

-- the modules that its events name, and the listing that was read after it
pub record BlockRead : Type 0 where
  pub names : List (List ℕ)
  pub listing : Option (List ℕ)

-- what was written of a block so far, whether a change was, and what is carried on
pub record BlockWritten : Type 0 where
  pub carried : CarriedOn
  pub has_change : Bool
  pub text : List ℕ

-- the modules that the events of lines name; a mark of all has no name
abbrev pub named_in : List EventLine → List (List ℕ)
named_in said = filter_map (λ line. option_map (λ e. e.name) line.event) said

-- the lines of the modules in the listing
abbrev pub modules_now : BlockRead → List SomeLines
modules_now b = option_map_or (λ text. modules_in (lines text)) b.listing []

-- the lines that the module of an event has after it
abbrev pub own_text : BlockRead → KernelEvent → List ℕ
own_text b e = if is_freed e.kind then [] else text_of (modules_now b) e.name

-- the modules that no event of the block names and that have changed, for its first change
abbrev pub other_names : BlockRead → Bool → List SomeLines → List (List ℕ)
other_names b has_change old =
    if has_change || is_none b.listing then [] else changed_names b.names (modules_now b) old

-- ---- what is written of an event

-- the whole listing
abbrev pub with_listing : CarriedOn → List ℕ → BlockWritten → BlockWritten
with_listing c text p = record {
  carried = record c { modules = Some (modules_in (lines text)); is_lost = false };
  has_change = p.has_change;
  text = p.text ++ header_line (codes "listing ") c.time_text ++ text;
}

abbrev pub after_listing : BlockRead → BlockWritten → KernelEvent → BlockWritten
after_listing b p e =
    option_map_or (λ text. with_listing (at_time p.carried e) text p) b.listing p

-- a change: its lines after its header, and the lines of the modules after it
pub record ChangeWritten : Type 0 where
  pub text : List ℕ
  pub modules : List SomeLines

-- the change of an event whose module has these lines now
abbrev pub change_with : BlockRead → KernelEvent → List ℕ → Bool → List SomeLines → ChangeWritten
change_with b e own has_change old =
    let others = other_names b has_change old in
    record {
      text = change_lines e.name own others (modules_now b);
      modules = modules_after e.name own others (modules_now b) old;
    }

-- a mark of a module whose lines are those that the history has
abbrev pub is_silent : KernelEvent → List ℕ → List SomeLines → Bool
is_silent e own old = is_mark_of e.kind && bytes_eq own (text_of old e.name)

-- the change of an event, if it makes one
abbrev pub change_of : BlockRead → KernelEvent → Bool → List SomeLines → Option ChangeWritten
change_of b e has_change old =
    let own = own_text b e in
    if is_silent e own old then None else Some (change_with b e own has_change old)

abbrev pub with_change : CarriedOn → ChangeWritten → BlockWritten → BlockWritten
with_change c change p = record {
  carried = record c { modules = Some change.modules };
  has_change = true;
  text = p.text ++ header_line (codes "change ") c.time_text ++ change.text;
}

-- an event of a module, after the first listing
abbrev pub after_module : BlockRead → BlockWritten → KernelEvent → List SomeLines → BlockWritten
after_module b p e old =
    option_map_or (λ change. with_change (at_time p.carried e) change p)
    (change_of b e p.has_change old) p

-- an event is written as the whole listing: a mark of all, or the first after some were lost
abbrev pub is_listed_by : CarriedOn → KernelEvent → Bool
is_listed_by c e = c.is_lost || is_mark e.kind

-- an event; before the first listing only such a one is written
abbrev pub after_event : BlockRead → BlockWritten → KernelEvent → BlockWritten
after_event b p e =
    if is_listed_by p.carried e then after_listing b p e
    else option_map_or (after_module b p e) p.carried.modules p

-- ---- what is written of a block

-- events were lost
abbrev pub lost_after : Bool → BlockWritten → BlockWritten
lost_after lost p =
    record p { carried = record p.carried { is_lost = p.carried.is_lost || lost } }

abbrev pub after_line : BlockRead → BlockWritten → EventLine → BlockWritten
after_line b p line = lost_after line.is_lost (option_map_or (after_event b p) line.event p)

abbrev pub first_written : CarriedOn → BlockWritten
first_written c = record { carried = c; has_change = false; text = [] }

abbrev pub block_of : List EventLine → Option (List ℕ) → BlockRead
block_of said listing = record { names = named_in said; listing = listing }

-- what is written of lines, after which this listing was read, and what is carried on
abbrev pub after_block : List EventLine → Option (List ℕ) → CarriedOn → BlockWritten
after_block said listing c = fold (after_line (block_of said listing)) (first_written c) said

-- ---- when the listing is read

-- an event asks for the listing, after the first listing or not, and after some were lost or not
abbrev pub asks : Bool → Bool → KernelEvent → Bool
asks listed lost e = lost || is_mark e.kind || (listed && not (is_freed e.kind))

-- one of these lines does
abbrev pub needs : Bool → Bool → List EventLine → Bool
needs listed lost [] = false
needs listed lost (line ∷ more) =
    option_map_or (asks listed lost) line.event false || needs listed (lost || line.is_lost) more
