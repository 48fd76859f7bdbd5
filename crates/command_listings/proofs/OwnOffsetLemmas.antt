-- Which readers failed where listings and then a log are read.
use Rattle.command_listings.proofs.Words.{◌≡◌, ℕ, zero, suc, [], ◌∷◌, ◌++◌, Err, subst, sym}
use Rattle.command_listings.proofs.Words.{AreReadAs, Failures, NoReaderFailed, Fault, Read, Refused}
use Rattle.command_listings.proofs.Words.{ListingTexts}
use Rattle.command_parts.specs.Readings.{IsReadAs, OnlyFailed}
use Rattle.order_laws.specs.declared.refusals.Refusal.TheVariants as refusal
use Rattle.std.specs.Global.{Vec}

module _ (n : ℕ × ℕ) where
  pub none_then : (counts : Failures) → NoReaderFailed counts → n.1 ≡ n.0
      → NoReaderFailed (counts ++ n ∷ [])
  none_then [] none one = (one, tt)
  none_then (c ∷ counts) none one = (none.0, none_then counts none.1 one)

  only_then : (place : ℕ) (counts : Failures) → OnlyFailed place counts → n.1 ≡ n.0
      → OnlyFailed place (counts ++ n ∷ [])
  only_then place [] only one = absurd only
  only_then zero (c ∷ counts) only one = (only.0, none_then counts only.1 one)
  only_then (suc place) (c ∷ counts) only one = (only.0, only_then place counts only.1 one)

  -- a listing was not read, and so the log was not
  pub listing_unread : (counts : Failures) (f : Fault) → AreReadAs {A = ListingTexts} counts (Err f)
      → n.1 ≡ n.0 → AreReadAs {A = ℕ} (counts ++ n ∷ []) (Err f)
  listing_unread counts (Refused refusal.OutOfMemory) none one = none_then counts none one
  listing_unread counts (Read place) only one = only_then place counts only one
  listing_unread counts _ h one = absurd h

  -- the log was not read
  pub log_unread : (a b c : ℕ × ℕ) → NoReaderFailed (a ∷ b ∷ c ∷ []) → (f : Fault)
      → IsReadAs {A = Vec ℕ} 3 n.0 n.1 (Err f) → AreReadAs {A = ℕ} (a ∷ b ∷ c ∷ n ∷ []) (Err f)
  log_unread a b c none (Refused refusal.OutOfMemory) same = none_then (a ∷ b ∷ c ∷ []) none same
  log_unread a b c none (Read place) only = subst (λ p. OnlyFailed p (a ∷ b ∷ c ∷ n ∷ []))
      (sym only.0) (none.0, (none.1.0, (none.1.1.0, (only.1, tt))))
  log_unread a b c none _ h = absurd h
