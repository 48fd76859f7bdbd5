-- What is written for a log that lasts, whose listings are read again if names are asked for.
use Rattle.std.specs.Prelude.{◌≡◌, ◌≤◌, ◌⊎◌, ℕ, ◌-◌, ◌^◌, ◌||◌, ◌&&◌, List, [], ◌∷◌, ◌++◌, flat_map}
use Rattle.std.specs.Prelude.{length, take}
use Rattle.std.specs.Prelude.{All, Bool, Option, Some, None, Result, Ok, Err, IfSome, false, true}
use Rattle.std.specs.Prelude.{is_some, if◌then◌else◌}
use Rattle.std.specs.Option.{option_to_list}
use Rattle.std.specs.Io.KnownBytes.{Appends, Consumes, IsAtEnd}
use Rattle.texts.specs.declared.output.Output.{Output}
use Rattle.texts.specs.Lines.{lines_of}
use Rattle.texts.specs.Output.{Says, contents_of, has_failed}
use Rattle.listing.specs.KernelLines.{shows_symbol}
use Rattle.listing.specs.Looks.{is_narrow}
use Rattle.listing.specs.ListingNotes.{is_some_noted}
use Rattle.listing.specs.declared.listing_notes.ListingNotes.{ListingNotes}
use Rattle.logs.specs.Annotation.{EndsLog, IsOpen, KeepsNothingBack, Passes, Puts, put_of}
use Rattle.logs.specs.AnnotatedLogs.{annotated_lines, first_context, context_over}
use Rattle.logs.specs.Answering.{Answering}
use Rattle.logs.specs.Lines.{AreWhole, has_end, lines}
use Rattle.logs.specs.Unnamed.{EndsUnnamed, PassesUnnamed, ends_address, has_address}
use Rattle.logs.specs.Unnamed.{context_unnamed}
use Rattle.logs.specs.Unnamed.{unanswered}
use Rattle.logs.specs.declared.annotation.Findings.{Findings}
use Rattle.logs.specs.declared.annotation.LogFault.{LogFault}
use Rattle.logs.specs.declared.annotator.Annotator.{Annotator}
use Rattle.logs.specs.declared.contexts.LogContext.{LogContext}
use Rattle.logs.specs.declared.log_names.LogNames.{LogNames}
use Rattle.modules.specs.Entries.{CatalogEntries}
use Rattle.modules.specs.Listed.{BoundNames}
use Rattle.order_laws.specs.declared.refusals.Refusal.TheVariants as refusal
use Rattle.command_parts.specs.OpenedCatalogs.{IsCatalogOf, OpensCatalog}
use Rattle.listing.specs.Opening.{Given}
use Rattle.command_parts.specs.declared.fault.Fault.{Fault}
use Rattle.command_parts.specs.declared.fault.Fault.TheVariants.{BadLine, Read, Refused, TooLong}
use Rattle.command_listings.specs.Annotations.{IsEndTold, listed_kernel, stop_of}
use Rattle.command_listings.specs.LastingLogs.{Block, Event, Failed, Happen, IsFaultOfListings}
use Rattle.command_listings.specs.LastingLogs.{Listings, Seen}
use Rattle.command_listings.specs.LogAnswers.{answered_by}
use Rattle.command_listings.specs.NoNames.{TellsUnread}
use Rattle.command_listings.specs.NoteTexts.{IsNoted, note_lines}
use Rattle.std.specs.declared.io.Error.{Error}
use Rattle.command_parts.specs.OpenedCatalogs.{texts_in}
use Rattle.command_parts.specs.declared.opened_catalogs.ListingTexts.{ListingTexts}
use Rattle.command_listings.specs.declared.no_names.NoNames.{NoNames}
use Rattle.command_listings.specs.declared.no_names.NoNames.TheVariants as no
use Rattle.command_listings.specs.declared.annotations.Stop.{Stop}
use Rattle.command_listings.specs.declared.annotations.Stop.TheVariants as stop
use Rattle.command_listings.specs.declared.annotations.Annotate.{Annotate}
use Rattle.command_listings.specs.declared.following.Followed.{Followed}
use Rattle.command_listings.specs.declared.following.Part.{Part}
use Rattle.command_listings.specs.declared.following.Part.TheVariants as part
use Rattle.command_listings.specs.declared.sources.Sources.{Sources}

-- ---- what is read

-- A turn: a block, and, if a line that ends in it has an address word, what a reading of the
-- listings after it came to.
pub record Turn : Type 0 where
  pub block : List ℕ
  pub reading : Option Event

-- the bytes of the log that are read in turns
abbrev pub read_in : List Turn → List ℕ
read_in turns = flat_map (λ t. t.block) turns

-- what is read in a turn, in order
abbrev pub events_of : Turn → List Event
events_of t = Block t.block ∷ option_to_list t.reading

-- what is read are the texts that the listings are known to have
abbrev pub IsAsKnown : Option Given → Event → Type 0
IsAsKnown known (Listings g) = IfSome known (λ k. g ≡ k)
IsAsKnown known _ = Unit {0}

abbrev pub AreAsKnown : Option Given → Option Event → Type 0
AreAsKnown known reading = IfSome reading (IsAsKnown known)

-- ---- what names lines

-- these are the answers of the listings with these texts
abbrev pub AreAnswersOf : Sources → Annotate → Given → Answering → Type 0
AreAnswersOf q a g answer =
    (c : CatalogEntries) × (notes : ListingNotes) × IsCatalogOf q.kernel g c notes
    × (answer ≡ answered_by c a.rule (is_narrow (lines_of g.kallsyms)))

-- What names lines: these answers, or nothing, in a log of a 32-bit kernel or not.
pub data Naming : Type 0 where
  By : Answering → Naming
  Unnamed : Bool → Naming

abbrev pub answering_of : Naming → Answering
answering_of (By answer) = answer
answering_of (Unnamed narrow) = unanswered narrow

-- what is carried on after lines that are named so
abbrev pub carried_by : Naming → LogContext → List (List ℕ) → LogContext
carried_by (By answer) context ls = context_over answer context ls
carried_by (Unnamed narrow) context ls = context_unnamed narrow context ls

-- nothing names the lines
abbrev pub is_unnamed : Naming → Bool
is_unnamed (By answer) = false
is_unnamed (Unnamed narrow) = true

-- Listings with these texts give no names for this reason: no symbol of theirs is shown, or they
-- say no catalog.
abbrev pub IsNoCatalog : Fault → NoNames → Type 0
IsNoCatalog (BadLine place n) why = why ≡ no.BadLine place n
IsNoCatalog (Refused refusal.TooManyRegions) why = why ≡ no.TooManyRegions
IsNoCatalog _ why = ⊥

abbrev pub GiveNoNames : Sources → Given → NoNames → Type 0
GiveNoNames q g why =
    ((shows_symbol (lines_of g.kallsyms) ≡ false) × (why ≡ no.NoSymbol))
    ⊎ ((f : Fault) × OpensCatalog q.kernel g (Err f) × IsNoCatalog f why)

-- a listing cannot be read, which is the reason
abbrev pub IsUnreadFor : Fault → NoNames → Type 0
IsUnreadFor (Read place) why = (error : Option Error) × (why ≡ no.Unread place error)
IsUnreadFor _ why = ⊥

-- after listings were read with this result there are no names for this reason
abbrev pub HasNoNames : Sources → Event → NoNames → Type 0
HasNoNames q (Listings g) why = GiveNoNames q g why
HasNoNames q (Failed f) why = IsUnreadFor f why
HasNoNames q (Block block) why = ⊥

-- what names lines after the listings were read with this result, and what is noted of it
abbrev pub IsNamingAfter : Sources → Annotate → Bool → Event → Naming → List ℕ → Type 0
IsNamingAfter q a narrow (Listings g) (By answer) note =
    (shows_symbol (lines_of g.kallsyms) ≡ true) × AreAnswersOf q a g answer × (note ≡ [])
IsNamingAfter q a narrow event (Unnamed n) note =
    (n ≡ narrow) × (why : NoNames) × HasNoNames q event why × TellsUnread q.files why note
IsNamingAfter q a narrow _ (By answer) note = ⊥

-- what names lines after a reading, or without one
abbrev pub IsNamingOf : Sources → Annotate → Bool → Option Event → Naming → List ℕ → Type 0
IsNamingOf q a narrow (Some event) n note = IsNamingAfter q a narrow event n note
IsNamingOf q a narrow None (Unnamed n) note = (n ≡ narrow) × (note ≡ [])
IsNamingOf q a narrow None (By answer) note = ⊥

-- each note is written once
abbrev pub told_once : Bool → List ℕ → List ℕ
told_once told note = if told then [] else note

-- it was noted, before or now
abbrev pub is_told_after : Bool → Option Event → Naming → Bool
is_told_after told reading n = told || (is_some reading && is_unnamed n)

-- ---- how lines are written

-- With a block, after a line that is open, the lines that have their end now are put, each named
-- so, and what is put of the line that is open after them.
pub record NamesBlock (n : Naming) (context held' : LogContext)
    (line block line' text : List ℕ)
    : Type 0 where
  pub ended : List ℕ
  pub parts : line ++ block ≡ ended ++ line'
  pub whole : AreWhole ended
  pub no_end : has_end line' ≡ false
  pub carried : held' ≡ carried_by n context (lines ended)
  pub put : put_of line ++ text
      ≡ annotated_lines (answering_of n) context (lines ended) ++ put_of line'

abbrev pub NamesSome : LogContext → List ℕ → List ℕ → Naming → List ℕ → Type 0
NamesSome context line block n text =
    (held' : LogContext) × (line' : List ℕ) × NamesBlock n context held' line block line' text

-- The line that is open after the last block is put, named so, and these are the names of the log.
pub record NamesLast (context : LogContext) (line : List ℕ) (n : Naming) (names : LogNames)
    (text : List ℕ)
    : Type 0 where
  pub names_are : names ≡ (carried_by n context (lines line)).names
  pub put : put_of line ++ text ≡ annotated_lines (answering_of n) context (lines line)

-- How far a log was followed: whether it is of a 32-bit kernel, by the listings that gave names
-- last; whether it was noted that listings give none; what is carried on; and the line that is
-- open.
pub record Point : Type 0 where
  pub narrow : Bool
  pub told : Bool
  pub context : LogContext
  pub line : List ℕ

abbrev pub first_point : Bool → Point
first_point narrow = record { narrow = narrow; told = false; context = first_context; line = [] }

-- In a turn the listings are read exactly if a line that ends in its block has an address word, and
-- then this names the lines, and this is noted.
abbrev pub IsNamedIn : Sources → Annotate → Point → Turn → Naming → List ℕ → Type 0
IsNamedIn q a p t n note =
    (is_some t.reading ≡ ends_address p.narrow (p.line ++ t.block))
    × IsNamingOf q a p.narrow t.reading n note

-- at the end, exactly if the line that is open has one
abbrev pub IsNamedAtEnd : Sources → Annotate → Point → Option Event → Naming → List ℕ → Type 0
IsNamedAtEnd q a p reading n note =
    (is_some reading ≡ has_address p.narrow p.line) × IsNamingOf q a p.narrow reading n note

abbrev pub point_after : Point → Turn → Naming → LogContext → List ℕ → Point
point_after p t n held' line' = record {
  narrow = (answering_of n).is_narrow;
  told = is_told_after p.told t.reading n;
  context = held';
  line = line';
}

-- After these turns the log was followed to this point, and this text was put, each line of it
-- named by the listings as they were read after the block in which it ends, and these notes were
-- written.
pub data IsNamed (q : Sources) (a : Annotate) (first : Bool)
    : List Turn → Point → List ℕ → List ℕ → Type 0 where
  no_turn : IsNamed q a first [] (first_point first) [] []
  one_more : (turns : List Turn) (p : Point) (text more notes note : List ℕ)
      (held' : LogContext) (line' : List ℕ) (t : Turn) (n : Naming)
      → IsNamed q a first turns p text notes → IsNamedIn q a p t n note
      → NamesBlock n p.context held' p.line t.block line' more
      → IsNamed q a first (turns ++ t ∷ []) (point_after p t n held' line') (text ++ more)
      (notes ++ told_once p.told note)

-- ---- one part of a log

-- what a block is passed with, and what the open line is ended with
abbrev pub PassesBy : Naming → Annotator → Annotator → List ℕ → List ℕ → Type 0
PassesBy (By answer) a a' bytes text = Passes answer a a' bytes text
PassesBy (Unnamed narrow) a a' bytes text = PassesUnnamed narrow a a' bytes text

abbrev pub EndsBy : Naming → Annotator → LogNames → List ℕ → Type 0
EndsBy (By answer) a names text = EndsLog answer a names text
EndsBy (Unnamed narrow) a names text = EndsUnnamed narrow a names text

-- the lines that end in a block are put, or the last line
abbrev pub PutsPart : Part → Annotator → Annotator → Naming → LogNames → List ℕ → Type 0
PutsPart (part.Lines block) a a' n names text = PassesBy n a a' block.now text
PutsPart part.Last a a' n names text = EndsBy n a names text

-- after this open line one of them has an address word
abbrev pub asks_for_names : Part → Bool → List ℕ → Bool
asks_for_names (part.Lines block) narrow line = ends_address narrow (line ++ block.now)
asks_for_names part.Last narrow line = has_address narrow line

-- the listings were read exactly if one of them has
abbrev pub IsAskedFor : Part → Bool → Annotator → Option Event → Type 0
IsAskedFor p narrow a reading =
    (line : List ℕ) → IsOpen a line → is_some reading ≡ asks_for_names p narrow line

-- the catalog of listings with these texts, or why there is none
abbrev pub GivesCatalog : Option BoundNames → Given → Result CatalogEntries Fault → Type 0
GivesCatalog kernel g (Ok c) = (notes : ListingNotes) × IsCatalogOf kernel g c notes
GivesCatalog kernel g (Err f) = OpensCatalog kernel g (Err f)

-- Of the listings this was read, and of the log nothing.
pub record ReadsOnce (before after : Seen) (reading : Option Event) : Type 0 where
  pub happen : Happen before.events after.events (option_to_list reading)
  pub left : after.left ≡ before.left
  pub known : before.next ≡ before.later → AreAsKnown before.later reading
  pub next : before.next ≡ before.later → after.next ≡ before.later
  pub later : after.later ≡ before.later

-- a text with this property was put, or it was not
abbrev pub PutsAs : {W X : Type 0} → (W → Option (List ℕ)) → (X → List ℕ → Type 0) → Output W
    → Output W → Result X Stop → Type 0
PutsAs contents P w w' (Ok x) = Puts contents P w w' (Ok x)
PutsAs {W} {X} contents P w w' (Err why) =
    (f : LogFault) × (why ≡ stop_of f) × Puts {X = X} contents P w w' (Err f)

-- there is no memory, and nothing was written, also no note
abbrev pub IsStarved : {W E X : Type 0} → Output W → Output W → Output E → Output E
    → Result X Stop → Type 0
IsStarved w w' e e' (Ok x) = ⊥
IsStarved w w' e e' (Err why) =
    (w' ≡ w) × (e' ≡ e) × (why ≡ stop.Failed (Refused refusal.OutOfMemory))

-- The listings were read again, and their texts show a symbol, or there are no names for a reason;
-- or there is no memory.
abbrev pub ReadsAgain : Seen → Seen → Result (Result ListingTexts NoNames) Stop → Type 0
ReadsAgain before after (Ok (Ok texts)) =
    ReadsOnce before after (Some (Listings (texts_in texts)))
    × (shows_symbol (lines_of (texts_in texts).kallsyms) ≡ true)
ReadsAgain before after (Ok (Err why)) =
    (event : Event) × ReadsOnce before after (Some event) × ((q : Sources) → HasNoNames q event why)
ReadsAgain before after (Err s) =
    (event : Event) × ReadsOnce before after (Some event)
    × (s ≡ stop.Failed (Refused refusal.OutOfMemory))

-- why there is no catalog of listings; any other fault is that there is no memory
abbrev pub SaysNoCatalog : Fault → Result NoNames Stop → Type 0
SaysNoCatalog f (Ok why) = IsNoCatalog f why
SaysNoCatalog f (Err s) = s ≡ stop.Failed (Refused refusal.OutOfMemory)

-- how a log is followed on, after a part that was named so
abbrev pub GoesOn : Followed → Option Event → Naming → Followed → Type 0
GoesOn s reading n s' =
    (s'.is_narrow ≡ (answering_of n).is_narrow)
    × (s'.is_told ≡ is_told_after s.is_told reading n)

-- The notes on listings with these texts were written, or they say no catalog.
abbrev pub NotesTold : {E : Type 0} → (E → Option (List ℕ)) → Sources → Given → Output E → Output E
    → Result (Unit {0}) Fault → Type 0
NotesTold errors q g e e' (Ok _) =
    (c : CatalogEntries) × (notes : ListingNotes) × IsCatalogOf q.kernel g c notes
    × IsNoted errors e e' (is_some_noted notes) (note_lines q.kernel q.files notes)
NotesTold errors q g e e' (Err f) = OpensCatalog q.kernel g (Err f) × (e' ≡ e)

-- a part was put for which the listings give no names
abbrev pub PutsNameless : Part → Followed → Annotator → Annotator → Followed × LogNames → List ℕ
    → Type 0
PutsNameless p s b b' x text =
    (x.0.is_narrow ≡ s.is_narrow) × (x.0.is_told ≡ true)
    × PutsPart p b b' (Unnamed s.is_narrow) x.1 text

module _ {W : Type 0} (contents : W → Option (List ℕ)) (q : Sources) (a : Annotate) where
  -- The part was put, named by the listings that were read with this result;
  abbrev pub IsPutBy : Part → Followed → Annotator → Annotator → Event → Output W → Output W
      → Result (Followed × LogNames) Stop → Type 0
  IsPutBy p s b b' event w w' result =
      (answer : Answering) × IsNamingAfter q a s.is_narrow event (By answer) []
      × PutsAs contents
      (λ x text. GoesOn s (Some event) (By answer) x.0 × PutsPart p b b' (By answer) x.1 text)
      w w' result

  -- or they give no names, and nothing was done; or there is no memory.
  abbrev pub PutsIfNamed : Part → Followed → Annotator → Annotator → Event → Output W → Output W
      → Result (Result (Followed × LogNames) NoNames) Stop → Type 0
  PutsIfNamed p s b b' event w w' (Ok (Ok x)) = IsPutBy p s b b' event w w' (Ok x)
  PutsIfNamed p s b b' event w w' (Ok (Err why)) = HasNoNames q event why × (b' ≡ b) × (w' ≡ w)
  PutsIfNamed p s b b' event w w' (Err why) =
      ((w' ≡ w) × (why ≡ stop.Failed (Refused refusal.OutOfMemory)))
      ⊎ IsPutBy p s b b' event w w' (Err why)

module _ {W E : Type 0} (contents : W → Option (List ℕ)) (errors : E → Option (List ℕ))
    (q : Sources) (a : Annotate) where
  module _ (p : Part) (s : Followed) (b b' : Annotator) where
    -- After the listings were read with this result, its note was written, and the part was put,
    -- named by it; or there is no memory.
    abbrev pub NamesAfter : Event → Output W → Output W → Output E → Output E
        → Result (Followed × LogNames) Stop → Type 0
    NamesAfter event w w' e e' result =
        IsStarved w w' e e' result
        ⊎ ((n : Naming) × (note : List ℕ) × IsNamingAfter q a s.is_narrow event n note
        × Says errors e e' (told_once s.is_told note)
        × PutsAs contents
        (λ x text. GoesOn s (Some event) n x.0 × PutsPart p b b' n x.1 text) w w' result)

    -- This was read of the listings, its note was written, and the part was put, named by it.
    abbrev pub NamesPart : Option Event → Output W → Output W → Output E → Output E
        → Result (Followed × LogNames) Stop → Type 0
    NamesPart reading w w' e e' result =
        (n : Naming) × (note : List ℕ) × IsAskedFor p s.is_narrow b reading
        × IsNamingOf q a s.is_narrow reading n note × Says errors e e' (told_once s.is_told note)
        × PutsAs contents
        (λ x text. GoesOn s reading n x.0 × PutsPart p b b' n x.1 text) w w' result

    -- So it was, or there is no memory.
    abbrev pub TakesPart : Seen → Seen → Output W → Output W → Output E → Output E
        → Result (Followed × LogNames) Stop → Type 0
    TakesPart before after w w' e e' result =
        (reading : Option Event) × ReadsOnce before after reading
        × (IsStarved w w' e e' result ⊎ NamesPart reading w w' e e' result)

  -- ---- a log that lasts

  -- The log was followed through these turns to this point: what is put for them was written, and
  -- so were the notes.
  pub record IsFollowed (first : Bool) (turns : List Turn) (p : Point) (before after : Seen)
      (w w' : Output W) (e e' : Output E)
      : Type 0 where
    pub written : List ℕ
    pub notes : List ℕ
    pub named : IsNamed q a first turns p written notes
    pub happen : Happen before.events after.events (flat_map events_of turns)
    pub consumed : Consumes before.left after.left (read_in turns)
    pub known : All (λ t. AreAsKnown before.later t.reading) turns
    pub appended : Appends (contents_of contents w) (contents_of contents w') written
    pub sound : has_failed w' ≡ has_failed w
    pub none_back : KeepsNothingBack w w'
    pub told : Says errors e e' notes

  -- Then the log cannot be read;
  abbrev pub IsUnread : Seen → Seen → Output W → Output W → Output E → Output E
      → Result Findings Stop → Type 0
  IsUnread before after w w' e e' result =
      Happen before.events after.events (Failed (Read 3) ∷ []) × (w' ≡ w) × (e' ≡ e)
      × (result ≡ Err (stop.Failed (Read 3)))

  -- or there is no memory, after it was read on or not;
  abbrev pub IsOutOfMemory : Seen → Seen → Output W → Output W → Output E → Output E
      → Result Findings Stop → Type 0
  IsOutOfMemory before after w w' e e' result =
      (t : Turn) × Happen before.events after.events (events_of t)
      × Consumes before.left after.left t.block × (w' ≡ w) × (e' ≡ e)
      × (result ≡ Err (stop.Failed (Refused refusal.OutOfMemory)))

  -- or, in one turn more, the lines that have their end in its block are not all written;
  abbrev pub IsCutOff : Point → Seen → Seen → Output W → Output W → Output E → Output E
      → Result Findings Stop → Type 0
  IsCutOff p before after w w' e e' result =
      (t : Turn) × (n : Naming) × (note : List ℕ) × Happen before.events after.events (events_of t)
      × Consumes before.left after.left t.block × AreAsKnown before.later t.reading
      × IsNamedIn q a p t n note × Says errors e e' (told_once p.told note)
      × (why : Stop) × PutsAs {X = Unit {0}} contents
      (λ _. NamesSome p.context p.line t.block n) w w' (Err why)
      × (result ≡ Err why)

  -- what is returned of the last line
  abbrev pub EndsSo : List Turn → Point → Naming → Output W → Output W → Result Findings Stop
      → Type 0
  EndsSo turns p n w w' (Ok found) =
      (found.head.items ≡ take 2 (read_in turns))
      × PutsAs contents (NamesLast p.context p.line n) w w' (Ok found.names)
  EndsSo turns p n w w' (Err why) =
      PutsAs {X = LogNames} contents (NamesLast p.context p.line n) w w' (Err why)

  -- or the log is at its end;
  abbrev pub IsEnded : List Turn → Point → Seen → Seen → Output W → Output W → Output E → Output E
      → Result Findings Stop → Type 0
  IsEnded turns p before after w w' e e' result =
      (reading : Option Event) × (n : Naming) × (note : List ℕ)
      × Happen before.events after.events (Block [] ∷ option_to_list reading)
      × IsAtEnd after.left × AreAsKnown before.later reading
      × IsNamedAtEnd q a p reading n note × Says errors e e' (told_once p.told note)
      × EndsSo turns p n w w' result

  -- or it has more blocks than are counted.
  abbrev pub IsTooLong : List Turn → Seen → Seen → Output W → Output W → Output E → Output E
      → Result Findings Stop → Type 0
  IsTooLong turns before after w w' e e' result =
      (2 ^ 64 - 1 ≤ length turns) × (after ≡ before) × (w' ≡ w) × (e' ≡ e)
      × (result ≡ Err (stop.Failed (TooLong 3)))

  -- How the log was followed whose listings were read before it was begun.
  abbrev pub FollowsTurns : Bool → Seen → Seen → Output W → Output W → Output E → Output E
      → Result Findings Stop → Type 0
  FollowsTurns first before after w w' e e' result =
      (turns : List Turn) × (p : Point) × (mid : Seen) × (w1 : Output W) × (e1 : Output E)
      × IsFollowed first turns p before mid w w1 e e1
      × (IsUnread mid after w1 w' e1 e' result ⊎ IsOutOfMemory mid after w1 w' e1 e' result
      ⊎ IsCutOff p mid after w1 w' e1 e' result
      ⊎ IsEnded turns p mid after w1 w' e1 e' result
      ⊎ IsTooLong turns mid after w1 w' e1 e' result)

  -- ---- with the notes beside it

  -- nothing was written, also no note, and this fault is returned
  abbrev pub IsRefused : Output W → Output W → Output E → Output E → Fault → Result ℕ Fault → Type 0
  IsRefused w w' e e' f result = (w' ≡ w) × (e' ≡ e) × (result ≡ Err f)

  -- What the engine returns. There is no memory; or the listings cannot be read; or they were read
  -- before the log was begun, and say no catalog, or their notes were written, and the log was
  -- followed.
  abbrev pub FollowsLog : Seen → Seen → Output W → Output W → Output E → Output E
      → Result ℕ Fault → Type 0
  FollowsLog before after w w' e e' result =
      ((after ≡ before) × IsRefused w w' e e' (Refused refusal.OutOfMemory) result)
      ⊎ ((f : Fault) × IsFaultOfListings f × Happen before.events after.events (Failed f ∷ [])
      × IsRefused w w' e e' f result)
      ⊎ ((first : Given) × (mid : Seen) × Happen before.events mid.events (Listings first ∷ [])
      × IfSome before.next (λ known. first ≡ known)
      × (((f : Fault) × OpensCatalog q.kernel first (Err f) × (after ≡ mid)
      × IsRefused w w' e e' f result)
      ⊎ ((told : Output E) × NotesTold errors q first e told (Ok tt)
      × (mid.left ≡ before.left) × (mid.later ≡ before.later)
      × (e1 : Output E) × (end : Result Findings Stop)
      × FollowsTurns (is_narrow (lines_of first.kallsyms)) mid after w w' told e1 end
      × IsEndTold errors a.log.now (listed_kernel first.kallsyms a.rule.offset) e1 e' end
      result)))
