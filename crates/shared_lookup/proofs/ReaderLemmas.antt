-- Readers and ledgers of the table that is named.
use Rattle.shared_lookup.proofs.Words.{◌≡◌, ℕ, List, Option, Some, sym, ◌∙◌, ap, subst, Vec, All}
use Rattle.shared_lookup.proofs.Words.{TableId, Layout, ReaderState, new_reader, LookupResults}
use Rattle.shared_lookup.proofs.Words.{IsNamed, IsNewReaderOf, AreHeard}
use Rattle.latch_table.specs.declared.knowledge.Origin.TheVariants.{Start}
use Rattle.latch_table.specs.Seats.{first_knowledge}

pub same_some : {A : Type 0} (a b : A) → ◌≡◌ {A = Option A} (Some a) (Some b) → a ≡ b
same_some a b e = cc

-- the readers that a table is opened with
pub readers_opened : (l : Layout) (place : TableId) (all : List ReaderState)
    → All (λ x. x ≡ new_reader place (first_knowledge (Start l 0))) all
    → All (IsNewReaderOf (Some place)) all
readers_opened l place all new = λ k d less.
    let is = new k d less in (
      (
        λ it e. ap (λ (r : ReaderState). r.place) is ∙ same_some place it e,
        ap (λ (r : ReaderState). r.knowledge.base) is,
      ),
      ap (λ (r : ReaderState). r.knowledge.seen) is,
      ap (λ (r : ReaderState). r.memory) is,
    )

-- what came back is of the table of the ledger that comes out of the lock
pub heard_named : (table : Option TableId) (place there : TableId) (keys : List (Vec ℕ))
    (all : List LookupResults) → table ≡ Some place → IsNamed table there → AreHeard table keys all
    → AreHeard (Some there) keys all
heard_named table place there keys all is named heard =
    subst (λ (t : Option TableId). AreHeard t keys all)
    (is ∙ ap (λ (p : TableId). Some p) (sym (named place is))) heard
