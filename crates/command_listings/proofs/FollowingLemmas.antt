-- Parts of a log that are put, with what is read of the listings for each.
use Rattle.command_listings.proofs.Words.{◌≡◌, ◌∙◌, ◌+◌, ◌≤◌, ℕ, List, [], ◌∷◌, ◌++◌, Option, Some}
use Rattle.command_listings.proofs.Words.{None, Result, Ok, Err, refl, sym, ap, subst, inl, inr}
use Rattle.command_listings.proofs.Words.{arith, length, Output, Sources, Annotate, Given, Fault}
use Rattle.command_listings.proofs.Words.{Read, Refused, TooLong, Bool, false, true, or-false}
use Rattle.command_listings.proofs.Words.{or-true, CatalogEntries, answered_by, is_narrow, lines_of}
use Rattle.command_listings.proofs.Words.{take, length-append, ◌⊎◌, ◌^◌, IsErrAnd, handed_on}
use Rattle.command_listings.proofs.Words.{Findings, LogFault, is_some, Bor, ◌<◌, AreAnswersOf}
use Rattle.command_listings.proofs.Words.{Block, By, EndsBy, Event, Failed, Followed, FollowsTurns}
use Rattle.command_listings.proofs.Words.{GivesCatalog, GoesOn, HasNoNames, IsAskedFor}
use Rattle.command_listings.proofs.Words.{IsNamingAfter, Listings, IsCutOff, IsEnded, IsFollowed}
use Rattle.command_listings.proofs.Words.{IsNamedAtEnd, IsNamedIn, IsNamingOf, IsOutOfMemory}
use Rattle.command_listings.proofs.Words.{IsStarved, IsTooLong, IsUnread, NamesAfter, NamesBlock}
use Rattle.command_listings.proofs.Words.{NamesLast, NamesSome, Naming, PassesBy, Point, PutsAs}
use Rattle.command_listings.proofs.Words.{PutsIfNamed, PutsNameless, PutsPart, ReadsBlock}
use Rattle.command_listings.proofs.Words.{ReadsOnce, Seen, TakesPart, Turn, Unnamed, first_point}
use Rattle.command_listings.proofs.Words.{is_told_after, no_turn, one_more, point_after, read_in}
use Rattle.command_listings.proofs.Words.{stopped, told_once}
use Rattle.std.specs.Prelude.{◌-◌}
use Rattle.std.proofs.KnownBytes.{Appends-nil, Appends-trans}
use Rattle.command_listings.proofs.ReadLemmas.{AreRead, happened, is_over, known_now, lost}
use Rattle.command_listings.proofs.ReadLemmas.{nothing_read, one_turn, read_more, reads_nothing}
use Rattle.command_listings.proofs.ReadLemmas.{turn_read}
use Rattle.texts.specs.Output.{Says}
use Rattle.texts.proofs.OutputLemmas.{nothing_said, then as said_then}
use Rattle.logs.proofs.PutLemmas.{puts_as, puts_failed}
use Rattle.logs.specs.Unnamed.{ends_address, has_address}
use Rattle.logs.specs.Annotation.{IsOpen, Puts, context_in}
use Rattle.logs.specs.AnnotatedLogs.{first_context}
use Rattle.logs.specs.declared.annotator.Annotator.{Annotator}
use Rattle.logs.specs.declared.contexts.LogContext.{LogContext}
use Rattle.logs.specs.declared.log_names.LogNames.{LogNames}
use Rattle.listing.specs.declared.address_rules.LogRule.{LogRule}
use Rattle.order_laws.specs.declared.refusals.Refusal.TheVariants as refusal
use Rattle.command_listings.specs.declared.annotations.Stop.{Stop}
use Rattle.command_listings.specs.declared.annotations.Stop.TheVariants as stop
use Rattle.command_listings.specs.declared.following.Part.{Part}
use Rattle.command_listings.specs.NoNames.{TellsUnread}
use Rattle.command_listings.specs.declared.no_names.NoNames.{NoNames}
use Rattle.command_listings.specs.declared.no_names.NoNames.TheVariants as no
use Rattle.command_listings.specs.declared.sources.ListingFiles.{ListingFiles}
use Rattle.command_listings.specs.declared.following.Part.TheVariants as part

-- what a block is passed with names the lines that end in it
names_block : (n : Naming) (a a' : Annotator) (line block text : List ℕ)
    → PassesBy n a a' block text → IsOpen a line
    → (line' : List ℕ) × NamesBlock n (context_in a) (context_in a') line block line' text
    × IsOpen a' line'
names_block (By answer) a a' line block text passes is_open =
    let p = passes line is_open in (
      p.line',
      record {
        ended = p.passed;
        parts = p.parts;
        whole = p.whole;
        no_end = p.is_open.no_end;
        carried = p.context;
        put = p.put;
      },
      p.is_open,
    )
names_block (Unnamed narrow) a a' line block text (mid, passes, is) is_open =
    let p = passes line is_open in (
      p.line',
      record {
        ended = p.passed;
        parts = p.parts;
        whole = p.whole;
        no_end = p.is_open.no_end;
        carried = ap context_in is ∙ ap
            (λ (context : LogContext). record context { names = (context_in a).names }) p.context;
        put = p.put;
      },
      record {
        no_end = p.is_open.no_end;
        long = ap (λ (x : Annotator). x.is_long) is ∙ p.is_open.long;
        kept = ap (λ (x : Annotator). x.begun.items) is ∙ p.is_open.kept;
      },
    )

-- and what the open line is ended with names it
names_last : (n : Naming) (a : Annotator) (line : List ℕ) (names : LogNames) (text : List ℕ)
    → EndsBy n a names text → IsOpen a line → NamesLast (context_in a) line n names text
names_last (By answer) a line names text ends is_open = let e = ends line is_open in
    record { names_are = e.names_are; put = e.put }
names_last (Unnamed narrow) a line names text (same, some, ends) is_open = let e =
    ends line is_open in
    record { names_are = same; put = e.put }

-- the answers of a catalog of the listings
pub answers_are : (q : Sources) (a : Annotate) (g : Given) (c c' : CatalogEntries) (rule : LogRule)
    (narrow : Bool) → GivesCatalog q.kernel g (Ok c) → c' ≡ c → rule ≡ a.rule
    → narrow ≡ is_narrow (lines_of g.kallsyms)
    → AreAnswersOf q a g (answered_by c' rule narrow)
answers_are q a g c c' rule narrow (notes, gives) same by sized = (
  c,
  notes,
  gives,
  ap (λ c. answered_by c rule narrow) same ∙ ap (λ r. answered_by c r narrow) by
      ∙ ap (answered_by c a.rule) sized,
)

-- whatever the reason, there is a note that tells it
pub some_note : (files : ListingFiles) (why : NoNames)
    → (note : List ℕ) × TellsUnread files why note
some_note files (no.Unread place error) = (_, ([], tt, refl))
some_note files no.NoSymbol = (_, (_, refl, refl))
some_note files (no.BadLine place line) = (_, (_, refl, refl))
some_note files no.TooManyRegions = (_, (_, refl, refl))

-- why it stops, where it does
abbrev stop_in : {X : Type 0} → Result X Stop → Stop → Stop
stop_in (Ok x) other = other
stop_in (Err s) other = s

abbrev done_in : {X : Type 0} → Result X Stop → X → X
done_in (Ok x) other = x
done_in (Err s) other = other

module _ {W : Type 0} (contents : W → Option (List ℕ)) (w w' : Output W) where
  -- what was put, or why it was not
  pub stopped_is : {X : Type 0} (P : X → List ℕ → Type 0) (put : Result X LogFault)
      → Puts contents P w w' put → PutsAs contents P w w' (stopped put)
  stopped_is P (Ok x) puts = puts
  stopped_is P (Err f) puts = (f, refl, puts)

  pub stopped_so : {X Y : Type 0} (P : X → List ℕ → Type 0) (Q : Y → List ℕ → Type 0)
      (other : X → Y) → ((x : X) (text : List ℕ) → P x text → Q (other x) text)
      → (put : Result X LogFault) (s : Stop) → stopped put ≡ Err s
      → Puts contents P w w' put → PutsAs contents Q w w' (Err s)
  stopped_so P Q other less (Ok x) s is puts = cc
  stopped_so P Q other less (Err f) s is puts =
      (f, sym (ap (λ r. stop_in r s) is), puts_as contents P Q w w' other less f puts)

  pub stopped_ok : {X Y : Type 0} (P : X → List ℕ → Type 0) (Q : Y → List ℕ → Type 0)
      (other : X → Y) → ((x : X) (text : List ℕ) → P x text → Q (other x) text)
      → (put : Result X LogFault) (x : X) → stopped put ≡ Ok x
      → Puts contents P w w' put → Puts contents Q w w' (Ok (other x))
  stopped_ok P Q other less (Ok y) x is (text, put, holds) =
      (text, put, rw (ap (λ r. done_in r y) is) at (less y text holds))
  stopped_ok P Q other less (Err f) x is puts = cc

  -- the same of what was put already, as another value is returned with it
  pub puts_on : {X Y : Type 0} (P : X → List ℕ → Type 0) (Q : Y → List ℕ → Type 0) (other : X → Y)
      → ((x : X) (text : List ℕ) → P x text → Q (other x) text) → (s : Stop)
      → PutsAs contents P w w' (Err s) → PutsAs contents Q w w' (Err s)
  puts_on P Q other less s (f, is, puts) = (f, is, puts_as contents P Q w w' other less f puts)

-- nothing is told
pub nothing_told : {E : Type 0} {errors : E → Option (List ℕ)} (told : Bool) (e : Output E)
    → Says errors e e (told_once told [])
nothing_told false e = nothing_said e
nothing_told true e = nothing_said e

-- listings that give no names leave lines unnamed
unnamed_after : (q : Sources) (a : Annotate) (narrow : Bool) (event : Event) (why : NoNames)
    (note : List ℕ) → HasNoNames q event why → TellsUnread q.files why note
    → IsNamingAfter q a narrow event (Unnamed narrow) note
unnamed_after q a narrow (Block block) why note has tells = absurd has
unnamed_after q a narrow (Listings g) why note has tells = (refl, why, has, tells)
unnamed_after q a narrow (Failed f) why note has tells = (refl, why, has, tells)

module _ {W E : Type 0} (contents : W → Option (List ℕ)) (errors : E → Option (List ℕ))
    (q : Sources) (a : Annotate) (p : Part) (s : Followed) (b : Annotator) where
  -- a part that the listings named, or not
  pub after_put : (b' : Annotator) (event : Event) (w w' : Output W) (e : Output E)
      (x : Followed × LogNames) → PutsIfNamed contents q a p s b b' event w w' (Ok (Ok x))
      → NamesAfter contents errors q a p s b b' event w w' e e (Ok x)
  after_put b' event w w' e x (answer, naming, puts) =
      inr (By answer, [], naming, nothing_told s.is_told e, puts)

  pub after_failed : (b' : Annotator) (event : Event) (w w' : Output W) (e : Output E) (why : Stop)
      → PutsIfNamed contents q a p s b b' event w w' (Err why)
      → NamesAfter contents errors q a p s b b' event w w' e e (Err why)
  after_failed b' event w w' e why (inl (same, is)) = inl (same, refl, is)
  after_failed b' event w w' e why (inr (answer, naming, puts)) =
      inr (By answer, [], naming, nothing_told s.is_told e, puts)

  -- what is put of a part that nothing names
  goes_on : (event : Event) (b' : Annotator) (x : Followed × LogNames) (text : List ℕ)
      → PutsNameless p s b b' x text → GoesOn s (Some event) (Unnamed s.is_narrow) x.0
      × PutsPart p b b' (Unnamed s.is_narrow) x.1 text
  goes_on event b' x text (narrow, told, put) = ((narrow, told ∙ sym (or-true s.is_told)), put)

  nameless : (event : Event) (b' : Annotator) (w w' : Output W)
      (result : Result (Followed × LogNames) Stop)
      → PutsAs contents (PutsNameless p s b b') w w' result
      → PutsAs contents (λ (x : Followed × LogNames) text. GoesOn s (Some event)
      (Unnamed s.is_narrow) x.0 × PutsPart p b b' (Unnamed s.is_narrow) x.1 text) w w' result
  nameless event b' w w' (Ok x) (text, put, holds) = (text, put, goes_on event b' x text holds)
  nameless event b' w w' (Err why) puts =
      puts_on contents w w' (PutsNameless p s b b') _ (λ x. x) (goes_on event b') why puts

  pub after_nameless : (b' b'' : Annotator) (event : Event) (w w' w'' : Output W) (e e' : Output E)
      (why : NoNames) (note : List ℕ) (result : Result (Followed × LogNames) Stop)
      → PutsIfNamed contents q a p s b b' event w w' (Ok (Err why))
      → TellsUnread q.files why note → Says errors e e' (told_once s.is_told note)
      → PutsAs contents (PutsNameless p s b' b'') w' w'' result
      → NamesAfter contents errors q a p s b b'' event w w'' e e' result
  after_nameless b' b'' event w w' w'' e e' why note result (has, same, same_written) tells said
      puts =
      let from_here : PutsAs contents (PutsNameless p s b b'') w w'' result =
      rw (same_written, same) at puts in
      inr (
        Unnamed s.is_narrow,
        note,
        unnamed_after q a s.is_narrow event why note has tells,
        said,
        nameless event b'' w w'' result from_here,
      )

  -- a part that asked for names
  pub takes_asked : (b' : Annotator) (before after : Seen) (event : Event) (w w' : Output W)
      (e e' : Output E) (result : Result (Followed × LogNames) Stop)
      → IsAskedFor p s.is_narrow b (Some event) → ReadsOnce before after (Some event)
      → NamesAfter contents errors q a p s b b' event w w' e e' result
      → TakesPart contents errors q a p s b b' before after w w' e e' result
  takes_asked b' before after event w w' e e' result asked once (inl starved) =
      (Some event, once, inl starved)
  takes_asked b' before after event w w' e e' result asked once
      (inr (n, note, naming, said, puts)) =
      (Some event, once, inr (n, note, asked, naming, said, puts))

  -- and one that did not
  quiet : (b' : Annotator) (names : LogNames) (text : List ℕ)
      → PutsPart p b b' (Unnamed s.is_narrow) names text
      → GoesOn s None (Unnamed s.is_narrow) s × PutsPart p b b' (Unnamed s.is_narrow) names text
  quiet b' names text put = ((refl, sym (or-false s.is_told)), put)

  unasked : (b' : Annotator) (seen : Seen) (w w' : Output W) (e : Output E)
      (result : Result (Followed × LogNames) Stop) → IsAskedFor p s.is_narrow b None
      → PutsAs contents (λ (x : Followed × LogNames) text. GoesOn s None (Unnamed s.is_narrow) x.0
      × PutsPart p b b' (Unnamed s.is_narrow) x.1 text) w w' result
      → TakesPart contents errors q a p s b b' seen seen w w' e e result
  unasked b' seen w w' e result asked puts = (
    None,
    reads_nothing seen,
    inr (Unnamed s.is_narrow, [], asked, (refl, refl), nothing_told s.is_told e, puts),
  )

  pub takes_quiet : (b' : Annotator) (seen : Seen) (w w' : Output W) (e : Output E)
      (names : LogNames) → IsAskedFor p s.is_narrow b None
      → PutsAs contents (PutsPart p b b' (Unnamed s.is_narrow)) w w' (Ok names)
      → TakesPart contents errors q a p s b b' seen seen w w' e e (Ok (s, names))
  takes_quiet b' seen w w' e names asked (text, put, holds) =
      unasked b' seen w w' e (Ok (s, names)) asked (text, put, quiet b' names text holds)

  pub takes_unput : (b' : Annotator) (seen : Seen) (w w' : Output W) (e : Output E) (why : Stop)
      → IsAskedFor p s.is_narrow b None
      → PutsAs contents (PutsPart p b b' (Unnamed s.is_narrow)) w w' (Err why)
      → TakesPart contents errors q a p s b b' seen seen w w' e e (Err why)
  takes_unput b' seen w w' e why asked puts = unasked b' seen w w' e (Err why) asked
      (puts_on contents w w' (PutsPart p b b' (Unnamed s.is_narrow)) _ (λ names. (s, names))
      (quiet b') why puts)

module _ {W E : Type 0} (contents : W → Option (List ℕ)) (errors : E → Option (List ℕ))
    (q : Sources) (a : Annotate) where
  -- The log was followed to this point, and the annotator is at the line that is open there. These
  -- are the first bytes of the log.
  pub record IsOn (first : Bool) (before then : Seen) (w now : Output W) (e told : Output E)
      (s : Followed) (b : Annotator) (head : List ℕ) (n : ℕ) : Type 0 where
    pub turns : List Turn
    pub point : Point
    pub is_open : IsOpen b point.line
    pub context : point.context ≡ context_in b
    pub narrow : point.narrow ≡ s.is_narrow
    pub is_told : point.told ≡ s.is_told
    pub followed : IsFollowed contents errors q a first turns point before then w now e told
    pub read : AreRead before then turns
    pub first_bytes : head ≡ take 2 (read_in turns)
    pub many : n ≤ length turns

  module _ (first : Bool) (before : Seen) (w : Output W) (e : Output E) where
    pub begun : (s : Followed) (b : Annotator) (head : List ℕ) → s.is_narrow ≡ first
        → s.is_told ≡ false → before.next ≡ before.later → context_in b ≡ first_context
        → IsOpen b [] → head ≡ [] → IsOn first before before w w e e s b head 0
    begun s b head narrow untold known context is_open empty =
        let none = nothing_read before known in
        record {
          turns = [];
          point = first_point first;
          is_open = is_open;
          context = sym context;
          narrow = sym narrow;
          is_told = sym untold;
          followed = record {
            written = [];
            notes = [];
            named = no_turn;
            happen = none.happen;
            consumed = none.consumed;
            known = none.known;
            appended = Appends-nil _;
            sound = refl;
            none_back = inl refl;
            told = nothing_said e;
          };
          read = none;
          first_bytes = empty;
          many = omega arith;
        }

    module _ (then : Seen) (now : Output W) (told : Output E) (s : Followed) (b : Annotator)
        (head : List ℕ) (n : ℕ) (on : IsOn first before then w now e told s b head n) where
      -- what was asked for and named at this point
      asked_in : (bytes : List ℕ) (reading : Option Event) (m : Naming) (note : List ℕ)
          → is_some reading ≡ ends_address s.is_narrow (on.point.line ++ bytes)
          → IsNamingOf q a s.is_narrow reading m note
          → IsNamedIn q a on.point (record { block = bytes; reading = reading }) m note
      asked_in bytes reading m note asked naming =
          rw on.narrow (asked, naming)

      asked_last : (reading : Option Event) (m : Naming) (note : List ℕ)
          → is_some reading ≡ has_address s.is_narrow on.point.line
          → IsNamingOf q a s.is_narrow reading m note → IsNamedAtEnd q a on.point reading m note
      asked_last reading m note asked naming =
          rw on.narrow (asked, naming)

      -- and how a block is named after it
      named_so : (m : Naming) (b' : Annotator) (line' bytes block text : List ℕ) → bytes ≡ block
          → NamesBlock m (context_in b) (context_in b') on.point.line bytes line' text
          → NamesBlock m on.point.context (context_in b') on.point.line block line' text
      named_so m b' line' bytes block text same named = rw (on.context, ← same) named

      told_so : (note : List ℕ) (told' : Output E)
          → Says errors told told' (told_once s.is_told note)
          → Says errors told told' (told_once on.point.told note)
      told_so note told' = subst (λ x. Says errors told told' (told_once x note)) (sym on.is_told)

      module _ (mid after : Seen) (room : List ℕ) (count : ℕ)
          (read : ReadsBlock then mid room (Ok count)) where
        -- one turn more
        pub turned : (bytes : Bor (List ℕ)) (b' : Annotator) (s' : Followed) (names : LogNames)
            (w' : Output W) (e' : Output E) (head' : List ℕ) → bytes.now ≡ take count room
            → ((log : List ℕ) → head ≡ take 2 log → head' ≡ take 2 (log ++ bytes.now))
            → TakesPart contents errors q a (part.Lines bytes) s b b' mid after now w' told
            e' (Ok (s', names)) → IsOn first before after w w' e e' s' b' head' (n + 1)
        turned bytes b' s' names w' e' head' same kept (reading, once, inl starved) = absurd starved
        turned bytes b' s' names w' e' head' same kept
            (reading, once, inr (m, note, asked, naming, said, (text, put, (goes, passes)))) =
            let (line', block_named, is_open) =
            names_block m b b' on.point.line bytes.now text passes on.is_open in
            let block = take count room in
            let t : Turn = record { block = block; reading = reading } in
            let are = turn_read read once on.read in
            let named = named_so m b' line' bytes.now block text same block_named in
            let asked_so : is_some reading ≡ ends_address s.is_narrow (on.point.line ++ block) =
            asked on.point.line on.is_open
            ∙ ap (λ l. ends_address s.is_narrow (on.point.line ++ l)) same in
            record {
              turns = on.turns ++ t ∷ [];
              point = point_after on.point t m (context_in b') line';
              is_open = is_open;
              context = refl;
              narrow = sym goes.0;
              is_told = ap (λ x. is_told_after x reading m) on.is_told ∙ sym goes.1;
              followed = record {
                written = on.followed.written ++ text;
                notes = on.followed.notes ++ told_once on.point.told note;
                named = one_more on.turns on.point on.followed.written text on.followed.notes note
                    (context_in b') line' t m on.followed.named
                    (asked_in block reading m note asked_so naming) named;
                happen = are.happen;
                consumed = are.consumed;
                known = are.known;
                appended = Appends-trans _ _ _ on.followed.written text on.followed.appended put.2;
                sound = put.1 ∙ sym put.0 ∙ on.followed.sound;
                none_back = inr put.3;
                told = said_then on.followed.told (told_so note e' said);
              };
              read = are;
              first_bytes = kept (read_in on.turns) on.first_bytes ∙ ap (take 2)
                  (ap (λ l. read_in on.turns ++ l) same ∙ sym (read_more on.turns t));
              many = omega (arith, on.many, length-append on.turns (t ∷ []));
            }

      -- what ends it, after all that was done, and with a fault that is handed on
      abbrev Ending : Seen → Output W → Output E → Result Findings Stop → Type 0
      Ending after w' e' result = IsUnread contents errors q a then after now w' told e' result
          ⊎ IsOutOfMemory contents errors q a then after now w' told e' result
          ⊎ IsCutOff contents errors q a on.point then after now w' told e' result
          ⊎ IsEnded contents errors q a on.turns on.point then after now w' told e' result
          ⊎ IsTooLong contents errors q a on.turns then after now w' told e' result

      so_far : (after : Seen) (w' : Output W) (e' : Output E) (result : Result Findings Stop)
          → Ending after w' e' result
          → FollowsTurns contents errors q a first before after w w' e e' result
      so_far after w' e' result end = (on.turns, on.point, then, now, told, on.followed, end)

      failed_so : (after : Seen) (w' : Output W) (e' : Output E) (why : Stop)
          (result : Result Findings Stop) → IsErrAnd result (λ s. s ≡ why)
          → Ending after w' e' (Err why)
          → FollowsTurns contents errors q a first before after w w' e e' result
      failed_so after w' e' why result is end =
          handed_on (FollowsTurns contents errors q a first before after w w' e e') result why is
          (so_far after w' e' (Err why) end)

      -- the log could not be read
      pub unread : (after : Seen) (room : List ℕ) (f : Fault) (result : Result Findings Stop)
          → IsErrAnd result (λ s. s ≡ stop.Failed f) → f ≡ Read 3
          → ReadsBlock then after room (Err f)
          → FollowsTurns contents errors q a first before after w now e told result
      unread after room f result handed is read =
          failed_so after now told _ result handed (inl (
            rw is at read.event,
            refl,
            refl,
            ap (λ f. Err (stop.Failed f)) is,
          ))

      -- there was no memory for the first bytes
      pub unkept : (after : Seen) (room : List ℕ) (count : ℕ) (result : Result Findings Stop)
          → IsErrAnd result (λ s. s ≡ stop.Failed (Refused refusal.OutOfMemory))
          → ReadsBlock then after room (Ok count)
          → FollowsTurns contents errors q a first before after w now e told result
      unkept after room count result handed read =
          failed_so after now told _ result handed (inr (inl (
            record { block = take count room; reading = None },
            read.event,
            read.bytes.0,
            refl,
            refl,
            refl,
          )))

      module _ (mid after : Seen) (room : List ℕ) (count : ℕ)
          (read : ReadsBlock then mid room (Ok count)) (b' : Annotator) (w' : Output W)
          (e' : Output E) where
        -- there was none for a part
        starved_so : (reading : Option Event) (why : Stop) → ReadsOnce mid after reading
            → IsStarved {X = Followed × LogNames} now w' told e' (Err why)
            → IsOutOfMemory contents errors q a then after now w' told e' (Err why)
        starved_so reading why once (same, same_told, is) = (
          record { block = take count room; reading = reading },
          one_turn read once,
          lost read once,
          same,
          same_told,
          ap Err is,
        )

        -- the lines that end in a block were not written
        pub cut_off : (bytes : Bor (List ℕ)) (why : Stop) (result : Result Findings Stop)
            → bytes.now ≡ take count room → IsErrAnd result (λ s. s ≡ why)
            → TakesPart contents errors q a (part.Lines bytes) s b b' mid after now w' told
            e' (Err why) → FollowsTurns contents errors q a first before after w w' e e' result
        cut_off bytes why result same handed (reading, once, inl starved) = failed_so after
            w' e' why result handed (inr (inl (starved_so reading why once starved)))
        cut_off bytes why result same handed
            (reading, once, inr (m, note, asked, naming, said, (f, is, puts))) =
            let block = take count room in
            let asked_so : is_some reading ≡ ends_address s.is_narrow (on.point.line ++ block) =
            asked on.point.line on.is_open
            ∙ ap (λ l. ends_address s.is_narrow (on.point.line ++ l)) same in
            let some : (x : Followed × LogNames) (text : List ℕ)
            → GoesOn s reading m x.0 × PassesBy m b b' bytes.now text
            → NamesSome on.point.context on.point.line block m text =
            λ x text (goes, passes).
            let (line', named, is_open) =
            names_block m b b' on.point.line bytes.now text passes on.is_open in (
              context_in b',
              line',
              named_so m b' line' bytes.now block text same named,
            ) in
            failed_so after w' e' why result handed (inr (inr (inl (
              record { block = block; reading = reading },
              m,
              note,
              one_turn read once,
              lost read once,
              known_now read once on.read.next,
              asked_in block reading m note asked_so naming,
              told_so note e' said,
              why,
              (
                f,
                is,
                puts_failed contents _ (λ (u : Unit {0}).
                    NamesSome on.point.context on.point.line block m) now w' tt some f puts,
              ),
              refl,
            ))))

        module _ (end : count ≡ 0) (room_for : 0 < length room) where
          last_so : (reading : Option Event) (m : Naming) (x : Followed × LogNames) (text : List ℕ)
              → GoesOn s reading m x.0 × EndsBy m b x.1 text
              → NamesLast on.point.context on.point.line m x.1 text
          last_so reading m x text (goes, ends) =
              rw on.context (names_last m b on.point.line x.1 text ends on.is_open)

          -- the log is at its end
          pub at_end : (s' : Followed) (found : Findings) → found.head.items ≡ head → TakesPart
              contents errors q a part.Last s b b' mid after now w' told e' (Ok (s', found.names))
              → FollowsTurns contents errors q a first before after w w' e e' (Ok found)
          at_end s' found kept (reading, once, inl starved) = absurd starved
          at_end s' found kept
              (reading, once, inr (m, note, asked, naming, said, (text, put, holds))) =
              so_far after w' e' (Ok found) (inr (inr (inr (inl (
                reading,
                m,
                note,
                happened read once end,
                is_over read once end room_for,
                known_now read once on.read.next,
                asked_last reading m note (asked on.point.line on.is_open) naming,
                told_so note e' said,
                (
                  kept ∙ on.first_bytes,
                  (text, put, last_so reading m (s', found.names) text holds),
                ),
              )))))

          -- its last line was not written
          pub not_ended : (why : Stop) (result : Result Findings Stop)
              → IsErrAnd result (λ s. s ≡ why)
              → TakesPart contents errors q a part.Last s b b' mid after now w' told e' (Err why)
              → FollowsTurns contents errors q a first before after w w' e e' result
          not_ended why result handed (reading, once, inl starved) = failed_so after w' e' why
              result handed (inr (inl (starved_so reading why once starved)))
          not_ended why result handed
              (reading, once, inr (m, note, asked, naming, said, (f, is, puts))) =
              failed_so after w' e' why result handed (inr (inr (inr (inl (
                reading,
                m,
                note,
                happened read once end,
                is_over read once end room_for,
                known_now read once on.read.next,
                asked_last reading m note (asked on.point.line on.is_open) naming,
                told_so note e' said,
                (
                  f,
                  is,
                  puts_as contents _ (NamesLast on.point.context on.point.line m) now
                      w' (λ (x : Followed × LogNames). x.1) (last_so reading m) f puts,
                ),
              )))))

      -- no block is left to be read
      pub too_long : 2 ^ 64 - 1 ≤ n → FollowsTurns contents errors q a first before then w now e
          told (Err (stop.Failed (TooLong 3)))
      too_long most = so_far then now told _
          (inr (inr (inr (inr (omega (arith, on.many, most), refl, refl, refl, refl)))))
