-- Events that are recorded, block by block.
use Rattle.recordings.proofs.Words.{◌≡◌, ◌∙◌, ◌+◌, ◌≤◌, ◌<◌, ◌-◌, ◌^◌, ◌⊎◌, ◌∷◌, ◌++◌, ℕ, List, []}
use Rattle.recordings.proofs.Words.{Option, None, Result, Ok, Err, refl, sym, ap, subst, inl, inr}
use Rattle.recordings.proofs.Words.{arith, length, take, append-nil, length-append, IsErrAnd}
use Rattle.recordings.proofs.Words.{handed_on, said_in, IsOpen, TakesBlock, CarriedOn, EventLine}
use Rattle.recordings.proofs.Words.{BlockWritten, after_block, Output, Fault, Read, TooLong, Stop}
use Rattle.recordings.proofs.Words.{Event, Failed, ReadsBlock, Seen, Turn}
use Rattle.recordings.specs.declared.recorder.Stop.TheVariants as stop
use Rattle.std.specs.Io.KnownBytes.{Appends}
use Rattle.std.proofs.KnownBytes.{Appends-nil, Appends-trans}
use Rattle.command_listings.proofs.ReadLemmas.{AreRead, happened, is_over, known_now, lost}
use Rattle.command_listings.proofs.ReadLemmas.{nothing_read, one_turn, turn_read}
use Rattle.texts.specs.Output.{contents_of, has_failed}
use Rattle.logs.specs.Annotation.{KeepsNothingBack}
use Rattle.recordings.proofs.LineLemmas.{same_open}
use Rattle.recordings.specs.Recorder.{IsEnded, IsOutOfMemory, IsRecordedTo, IsStopped, IsTooLong}
use Rattle.recordings.specs.Recorder.{IsUnread, Point, FailsToWrite, PutsLines, PutsSaid, ReadsFor}
use Rattle.recordings.specs.Recorder.{RecordsBlocks, Writes, first_point, no_memory, no_turn}
use Rattle.recordings.specs.Recorder.{one_more, written_of}

module _ {W : Type 0} (contents : W → Option (List ℕ)) where
  -- what a text that was written is for all that was
  appended_more : (w now w' : Output W) (written text : List ℕ)
      → Appends (contents_of contents w) (contents_of contents now) written
      → Writes contents now w' text
      → Appends (contents_of contents w) (contents_of contents w') (written ++ text)
  appended_more w now w' written text before (inl (none, same)) =
      subst (λ o. Appends (contents_of contents w) (contents_of contents o) (written ++ text))
      (sym same)
      (rw (none, append-nil written) before)
  appended_more w now w' written text before (inr put) =
      Appends-trans _ _ _ written text before put.2

  sound_more : (now w' : Output W) (text : List ℕ) → Writes contents now w' text
      → has_failed w' ≡ has_failed now
  sound_more now w' text (inl (none, same)) = ap has_failed same
  sound_more now w' text (inr put) = put.1 ∙ sym put.0

  none_back_more : (w now w' : Output W) (text : List ℕ) → KeepsNothingBack w now
      → Writes contents now w' text → KeepsNothingBack w w'
  none_back_more w now w' text before (inl (none, same)) =
      subst (KeepsNothingBack w) (sym same) before
  none_back_more w now w' text before (inr put) = inr put.3

  -- what was put of lines, by what they are and what was carried on
  puts_same : {c c' : CarriedOn} {said said' : List EventLine} (reading : Option Event)
      (w w' : Output W) (result : Result CarriedOn Stop) → c ≡ c' → said ≡ said'
      → PutsSaid contents c said reading w w' result
      → PutsSaid contents c' said' reading w w' result
  puts_same {c' = c'} {said = said} reading w w' result same lines puts =
      rw (same, lines) at puts

  -- a write of what lines say failed
  pub puts_failed : (c : CarriedOn) (said : List EventLine) (listing : Option (List ℕ))
      (part : BlockWritten) (text : List ℕ) (before after : Seen) (w w' : Output W) (why : Stop)
      (result : Result CarriedOn Stop)
      → ReadsFor c said before after (Ok listing) → part ≡ after_block said listing c
      → text ≡ part.text → FailsToWrite contents w w' text why → IsErrAnd result (λ s. s ≡ why)
      → PutsLines contents c said before after w w' result
  puts_failed c said listing part text before after w w' why result
      (reading, once, asked, shown, listed) is text_is fails handed =
      handed_on (PutsLines contents c said before after w w') result why handed (
        reading,
        once,
        inr (inr (
          asked,
          shown,
          rw (text_is ∙ ap (λ (p : BlockWritten). p.text)
              is ∙ ap (λ (l : Option (List ℕ)). (after_block said l c).text) listed) at fails,
        )),
      )

  module _ (before : Seen) (w : Output W) where
    -- Events were recorded to a point at which this is carried on, and that is kept of the line
    -- that is open.
    pub record IsOn (then : Seen) (now : Output W) (c : CarriedOn) (begun : List ℕ) (n : ℕ) : Type
        0 where
      pub turns : List Turn
      pub point : Point
      pub carried : c ≡ point.carried
      pub is_open : IsOpen begun point.line
      pub to : IsRecordedTo contents turns point before then w now
      pub read : AreRead before then turns
      pub many : n ≤ length turns

    pub begun : (c : CarriedOn) (line : List ℕ) → c ≡ first_point.carried → IsOpen line []
        → before.next ≡ before.later → IsOn before w c line 0
    begun c line first is_open known =
        let none = nothing_read before known in
        record {
          turns = [];
          point = first_point;
          carried = first;
          is_open = is_open;
          to = record {
            written = [];
            recorded = no_turn;
            happen = none.happen;
            consumed = none.consumed;
            known = none.known;
            appended = Appends-nil _;
            sound = refl;
            none_back = inl refl;
          };
          read = none;
          many = omega arith;
        }

    module _ (then : Seen) (now : Output W) (c : CarriedOn) (begun : List ℕ) (n : ℕ)
        (on : IsOn then now c begun n) where
      module _ (mid after : Seen) (room : List ℕ) (count : ℕ)
          (read : ReadsBlock then mid room (Ok count)) where
        -- one turn more
        pub turned : (begun' text : List ℕ) (c' : CarriedOn) (w' : Output W)
            → ((line : List ℕ) → IsOpen begun line → TakesBlock begun' line (take count room) text)
            → PutsLines contents c (said_in text) mid after now w' (Ok c')
            → IsOn after w' c' begun' (n + 1)
        turned begun' text c' w' takes (reading, once, puts) =
            let (ended, line', ends, is_open, same) = takes on.point.line on.is_open in
            let t : Turn = record { block = take count room; reading = reading } in
            let are = turn_read read once on.read in
            let (asked, shown, carried, writes) =
            puts_same reading now w' (Ok c') on.carried same puts in
            let more = (written_of on.point.carried (said_in ended) reading).text in
            record {
              turns = on.turns ++ t ∷ [];
              point = record {
                carried = (written_of on.point.carried (said_in ended) reading).carried;
                line = line';
              };
              carried = carried;
              is_open = is_open;
              to = record {
                written = on.to.written ++ more;
                recorded = one_more on.turns on.point on.to.written ended line' t on.to.recorded
                    ends asked shown;
                happen = are.happen;
                consumed = are.consumed;
                known = are.known;
                appended = appended_more w now w' on.to.written more on.to.appended writes;
                sound = sound_more now w' more writes ∙ on.to.sound;
                none_back = none_back_more w now w' more on.to.none_back writes;
              };
              read = are;
              many = omega (arith, on.many, length-append on.turns (t ∷ []));
            }

      -- what ends it, after all that was done, and with a reason that is handed on
      abbrev Ending : Seen → Output W → Result (Unit {0}) Stop → Type 0
      Ending after w' result = IsUnread contents then after now w' result
          ⊎ IsOutOfMemory contents then after now w' result
          ⊎ IsStopped contents on.point then after now w' result
          ⊎ IsEnded contents on.point then after now w' result
          ⊎ IsTooLong contents on.turns then after now w' result

      so_far : (after : Seen) (w' : Output W) (result : Result (Unit {0}) Stop)
          → Ending after w' result → RecordsBlocks contents before after w w' result
      so_far after w' result end = (on.turns, on.point, then, now, on.to, end)

      failed_so : (after : Seen) (w' : Output W) (why : Stop) (result : Result (Unit {0}) Stop)
          → IsErrAnd result (λ s. s ≡ why) → Ending after w' (Err why)
          → RecordsBlocks contents before after w w' result
      failed_so after w' why result is end = handed_on (RecordsBlocks contents before after w w')
          result why is (so_far after w' (Err why) end)

      -- the events could not be read
      pub unread : (after : Seen) (room : List ℕ) (f : Fault) (result : Result (Unit {0}) Stop)
          → IsErrAnd result (λ s. s ≡ stop.Failed f) → f ≡ Read 3
          → ReadsBlock then after room (Err f) → RecordsBlocks contents before after w now result
      unread after room f result handed is read =
          failed_so after now _ result handed (inl (
            rw is at read.event,
            refl,
            ap (λ f. Err (stop.Failed f)) is,
          ))

      -- there was no memory for the lines of a block
      pub untaken : (after : Seen) (room : List ℕ) (count : ℕ) (result : Result (Unit {0}) Stop)
          → IsErrAnd result (λ s. s ≡ no_memory) → ReadsBlock then after room (Ok count)
          → RecordsBlocks contents before after w now result
      untaken after room count result handed read =
          failed_so after now _ result handed (inr (inl (
            record { block = take count room; reading = None },
            read.event,
            read.bytes.0,
            refl,
            refl,
          )))

      module _ (mid after : Seen) (room : List ℕ) (count : ℕ)
          (read : ReadsBlock then mid room (Ok count)) (w' : Output W) where
        -- what a block says was not written
        pub stopped : (begun' text : List ℕ) (why : Stop) (result : Result (Unit {0}) Stop)
            → IsErrAnd result (λ s. s ≡ why)
            → ((line : List ℕ) → IsOpen begun line → TakesBlock begun' line (take count room) text)
            → PutsLines contents c (said_in text) mid after now w' (Err why)
            → RecordsBlocks contents before after w w' result
        stopped begun' text why result handed takes (reading, once, puts) =
            let (ended, line', ends, is_open, same) = takes on.point.line on.is_open in
            failed_so after w' why result handed (inr (inr (inl (
              record { block = take count room; reading = reading },
              ended,
              line',
              why,
              one_turn read once,
              lost read once,
              known_now read once on.read.next,
              ends,
              puts_same reading now w' (Err why) on.carried same puts,
              refl,
            ))))

        module _ (end : count ≡ 0) (room_for : 0 < length room) where
          last_so : (reading : Option Event) (result : Result CarriedOn Stop)
              → PutsSaid contents c (said_in begun) reading now w' result
              → PutsSaid contents on.point.carried (said_in on.point.line) reading now w' result
          last_so reading result puts = puts_same reading now w' result on.carried
              (same_open begun on.point.line on.is_open) puts

          -- the events are at their end
          pub at_end : (c' : CarriedOn)
              → PutsLines contents c (said_in begun) mid after now w' (Ok c')
              → RecordsBlocks contents before after w w' (Ok tt)
          at_end c' (reading, once, puts) = so_far after w' (Ok tt) (inr (inr (inr (inl (
            reading,
            happened read once end,
            is_over read once end room_for,
            known_now read once on.read.next,
            (c', last_so reading (Ok c') puts),
          )))))

          -- what the last line says was not written
          pub not_ended : (why : Stop) (result : Result (Unit {0}) Stop)
              → IsErrAnd result (λ s. s ≡ why)
              → PutsLines contents c (said_in begun) mid after now w' (Err why)
              → RecordsBlocks contents before after w w' result
          not_ended why result handed (reading, once, puts) =
              failed_so after w' why result handed (inr (inr (inr (inl (
                reading,
                happened read once end,
                is_over read once end room_for,
                known_now read once on.read.next,
                last_so reading (Err why) puts,
              )))))

      -- no block is left to be read
      pub too_long : 2 ^ 64 - 1 ≤ n
          → RecordsBlocks contents before then w now (Err (stop.Failed (TooLong 3)))
      too_long most =
          so_far then now _ (inr (inr (inr (inr (omega (arith, on.many, most), refl, refl, refl)))))
