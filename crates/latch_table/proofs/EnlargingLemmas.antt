-- The table in the words of a wider layout.
use Rattle.latch_table.proofs.Words.{◌≡◌, ℕ, ◌-◌, ◌*◌, ◌≤◌, List, [], length, take, All, None, refl}
use Rattle.latch_table.proofs.Words.{sym, ◌∙◌, ap, subst, Me, opening, TableId, Order, Layout}
use Rattle.latch_table.proofs.Words.{capacity_of, at, wider_words, generation_of, IsSound}
use Rattle.latch_table.proofs.Words.{WriterView, RepresentsLatch, Knowledge, WriterKnowledge}
use Rattle.latch_table.proofs.Words.{writer_of, writer_knowledge, moved_writer, blank_reader}
use Rattle.latch_table.proofs.Words.{KnowledgeHolds, ReaderState, new_reader, WriterState}
use Rattle.latch_table.proofs.Words.{writer_state, pending_of, shown_updates, IsTied, Enlarges}
use Rattle.latch_table.proofs.Words.{enlarged_state, reader_beside}
use Rattle.word_layout.proofs.WiderLemmas.{at_wider}
use Rattle.latch_core.specs.Widening.{why_not_widened, widened_writer, widened_latch}
use Rattle.latch_core.specs.Widening.{RepresentsWidened}
use Rattle.latch_core.proofs.WideningLemmas.{may_widen, widened_sound, latched_wider}
use Rattle.latch_table.proofs.RuleLemmas.{opens}
use Rattle.latch_table.proofs.WriterLemmas.{latched_now}

module _ {S K : Type 0} {o : Order K} {place : TableId} {readers : ℕ} {m : Me S Knowledge}
    {core : WriterView} (tied : IsTied o m core (writer_state place readers m.0 core)) (l : Layout)
    (accepted : why_not_widened core l ≡ None) where
  abbrev here : WriterState
  here = writer_state place readers m.0 core

  abbrev p : WriterKnowledge
  p = writer_of m.0

  abbrev wider : List ℕ
  wider = wider_words core.capacity (capacity_of l) p.picture

  idle : core.stores_left ≡ []
  idle = (may_widen core l accepted).0

  more : core.capacity ≤ capacity_of l
  more = (may_widen core l accepted).1

  hand_rests : here.latch.pending ≡ None
  hand_rests = ap (λ ss. pending_of ss p) idle

  -- the wider words keep the rule, with what the seat then knows
  pub opens_wider : {seat : Me S Knowledge} {words given : List ℕ} → seat ≡ m → words ≡ wider
      → given ≡ words
      → KnowledgeHolds {S = S} o (capacity_of l) (writer_of seat.0).base (opening given []
      (writer_knowledge (moved_writer (capacity_of l) words (writer_of seat.0))))
  opens_wider same is passed =
      subst (λ (z : Me S Knowledge × List ℕ × List ℕ).
      KnowledgeHolds {S = S} o (capacity_of l) (writer_of z.0.0).base
      (opening z.1 [] (writer_knowledge (moved_writer (capacity_of l) z.2 (writer_of z.0.0)))))
      (λ i. (sym same i, sym (passed ∙ is) i, sym is i))
      (opens o (capacity_of l) p.base wider [] (moved_writer (capacity_of l) wider p)
      (record { based = refl; capacity = refl; picture = refl; shown = refl })
      (latched_wider o core.capacity (capacity_of l) p.base p.picture p.known more
      (latched_now o place readers m core tied)))

  -- and the core, wider too, is tied to their first seat
  module _ (place' : TableId) (pictured : RepresentsWidened core (widened_writer core l)) where
    abbrev seat' : Me S Knowledge
    seat' = (writer_knowledge (moved_writer (capacity_of l) wider p), [])

    abbrev there : WriterState
    there = writer_state place' readers seat'.0 (widened_writer core l)

    hand_stays : pending_of core.stores_left (moved_writer (capacity_of l) wider p)
        ≡ here.latch.pending
    hand_stays =
        ap (λ ss. pending_of ss (moved_writer (capacity_of l) wider p)) idle ∙ sym hand_rests

    latch_is : there.latch ≡ widened_latch core.capacity (capacity_of l) here.latch
    latch_is = λ i. record { words = wider; newest_table = core.table; pending = hand_stays i }

    same_sequence : at wider 0 ≡ at p.picture 0
    same_sequence = at_wider core.capacity (capacity_of l) p.picture 0

    same_known : shown_updates there ≡ shown_updates here
    same_known = ap (λ q. take (generation_of q - p.base) p.accepted) same_sequence

    tied_wider : IsTied o seat' (widened_writer core l) there
    tied_wider = record {
      alone = refl;
      capacity = refl;
      pictures = subst (RepresentsLatch (widened_writer core l)) (sym latch_is)
          (pictured here.latch tied.pictures hand_rests);
      sound =
          subst (IsSound o (capacity_of l) (2 * p.base) p.accepted) (sym latch_is) (widened_sound o
          core.capacity (capacity_of l) (2 * p.base) p.accepted here.latch more tied.sound);
      known = tied.known ∙ sym same_known;
    }

    new_reader_is : new_reader place' seat'.0 ≡ reader_beside there
    new_reader_is = λ i. record {
      place = place';
      knowledge = blank_reader p.base (capacity_of l) (tied_wider.known i);
      memory = None;
    }

    enlarges_wider : (all : List ReaderState) → length all ≡ readers
        → All (λ x. x ≡ new_reader place' seat'.0) all → Enlarges here l there all
    enlarges_wider all count new = record {
      may = (hand_rests, (more, (may_widen core l accepted).2));
      state = λ i. record (enlarged_state place' l here) { latch = latch_is i };
      sequence = same_sequence;
      shown = same_known;
      count = count;
      readers = subst (λ r. All (λ x. x ≡ r) all) new_reader_is new;
    }

  -- so are a core and a seat that are equal to these
  module _ {core' : WriterView} (widened : core' ≡ widened_writer core l)
      (pictured : RepresentsWidened core core') {seat : Me S Knowledge} {words : List ℕ}
      (same : seat ≡ m) (is : words ≡ wider) where
    abbrev first : Knowledge
    first = writer_knowledge (moved_writer (capacity_of l) words (writer_of seat.0))

    first_is : first ≡ writer_knowledge (moved_writer (capacity_of l) wider p)
    first_is = λ i. writer_knowledge (moved_writer (capacity_of l) (is i) (writer_of (same i).0))

    pictured_wider : RepresentsWidened core (widened_writer core l)
    pictured_wider = subst (RepresentsWidened core) widened pictured

    pub tied_there : {place' : TableId} {m' : Me S Knowledge} → m' ≡ (first, [])
        → IsTied o m' core' (writer_state place' readers m'.0 core')
    tied_there {place' = place'} there =
        subst (λ (z : Me S Knowledge × WriterView).
        IsTied o z.0 z.1 (writer_state place' readers z.0.0 z.1))
        (λ i. (sym (there ∙ (λ j. (first_is j, []))) i, sym widened i))
        (tied_wider place' pictured_wider)

    pub enlarges : {place' : TableId} {m' : Me S Knowledge} {all : List ReaderState}
        → m' ≡ (first, []) → length all ≡ readers → All (λ x. x ≡ new_reader place' first) all
        → Enlarges here l (writer_state place' readers m'.0 core') all
    enlarges {place' = place'} {all = all} there count new =
        subst (λ (w : WriterState). Enlarges here l w all)
        (λ i.
        writer_state place' readers (sym (there ∙ (λ j. (first_is j, []))) i).0 (sym widened i))
        (enlarges_wider place' pictured_wider all count
        (subst (λ (v : Knowledge). All (λ x. x ≡ new_reader place' v) all) first_is new))
