-- What is read of a log that lasts, and of the listings that name it, turn by turn.
use Rattle.command_listings.proofs.Words.{◌≡◌, ◌∙◌, ◌<◌, ◌++◌, ℕ, List, [], ◌∷◌, Option, Some, None}
use Rattle.command_listings.proofs.Words.{Ok, refl, sym, ap, take, length, flat_map}
use Rattle.command_listings.proofs.Words.{flat_map-append, append-nil, append_assoc, option_to_list}
use Rattle.command_listings.proofs.Words.{All, AreAsKnown, Block, Event, Happen, ReadsBlock}
use Rattle.command_listings.proofs.Words.{ReadsOnce, Seen, Turn, events_of, read_in}
use Rattle.std.specs.Io.KnownBytes.{Consumes, IsAtEnd}
use Rattle.std.proofs.KnownBytes.{Consumes-nil, Consumes-trans}
use Rattle.std.proofs.lemmas.List.Elements.{All-nil, All-push}

-- events, and then more
happen_then : (h h' h'' : Option (List Event)) (events more : List Event) → Happen h h' events
    → Happen h' h'' more → Happen h h'' (events ++ more)
happen_then None h' h'' events more first second = tt
happen_then (Some earlier) h' h'' events more first second =
    let is : h'' ≡ Some ((earlier ++ events) ++ more) = rw first at second in
    is ∙ ap Some (append_assoc earlier events more)

nothing_happens : (h : Option (List Event)) → Happen h h []
nothing_happens None = tt
nothing_happens (Some earlier) = ap Some (sym (append-nil earlier))

-- no listings are read
pub reads_nothing : (seen : Seen) → ReadsOnce seen seen None
reads_nothing seen = record {
  happen = nothing_happens seen.events;
  left = refl;
  known = λ _. tt;
  next = λ is. is;
  later = refl;
}

-- All was read in these turns, and what the listings give next is what they give after that.
pub record AreRead (before then : Seen) (turns : List Turn) : Type 0 where
  pub happen : Happen before.events then.events (flat_map events_of turns)
  pub consumed : Consumes before.left then.left (read_in turns)
  pub known : All (λ t. AreAsKnown before.later t.reading) turns
  pub next : then.next ≡ then.later
  pub later : then.later ≡ before.later

pub nothing_read : (before : Seen) → before.next ≡ before.later → AreRead before before []
nothing_read before known = record {
  happen = nothing_happens before.events;
  consumed = Consumes-nil before.left;
  known = All-nil _;
  next = known;
  later = refl;
}

-- the bytes of one turn more
pub read_more : (turns : List Turn) (t : Turn)
    → read_in (turns ++ t ∷ []) ≡ read_in turns ++ t.block
read_more turns t = flat_map-append (λ (x : Turn). x.block) turns (t ∷ [])
    ∙ ap (λ l. read_in turns ++ l) (append-nil t.block)

-- a block is read, and then the listings or not
module _ {then mid after : Seen} {room : List ℕ} {count : ℕ} {reading : Option Event}
    (read : ReadsBlock then mid room (Ok count)) (once : ReadsOnce mid after reading) where
  pub one_turn : Happen then.events after.events (Block (take count room) ∷ option_to_list reading)
  one_turn = happen_then then.events mid.events after.events (Block (take count room) ∷ [])
      (option_to_list reading) read.event once.happen

  pub lost : Consumes then.left after.left (take count room)
  lost = rw once.left read.bytes.0

  known_next : then.next ≡ then.later → mid.next ≡ mid.later
  known_next next = read.next ∙ next ∙ sym read.later

  pub known_now : then.next ≡ then.later → AreAsKnown then.later reading
  known_now next = rw read.later at (once.known (known_next next))

  -- the log is at its end
  pub happened : count ≡ 0
      → Happen then.events after.events (Block [] ∷ option_to_list reading)
  happened end = rw end at one_turn

  pub is_over : count ≡ 0 → 0 < length room → IsAtEnd after.left
  is_over end room_for = rw once.left (read.bytes.1 end room_for)

  -- one turn more
  pub turn_read : {before : Seen} {turns : List Turn} → AreRead before then turns
      → AreRead before after (turns ++ record { block = take count room; reading = reading } ∷ [])
  turn_read {before = before} {turns = turns} are =
      let t : Turn = record { block = take count room; reading = reading } in
      record {
        happen = rw (flat_map-append events_of turns (t ∷ []), append-nil (events_of t))
            (happen_then before.events then.events after.events _ _ are.happen one_turn);
        consumed = rw (read_more turns t) (Consumes-trans before.left then.left after.left
            (read_in turns) t.block are.consumed lost);
        known = All-push (λ (x : Turn). AreAsKnown before.later x.reading) turns t are.known
            (rw are.later at (known_now are.next));
        next = once.next (known_next are.next) ∙ sym once.later;
        later = once.later ∙ read.later ∙ are.later;
      }
