-- If a follower was shown the listings of a history, each at its time, both have the same names at
-- each time.
use Rattle.std.proofs.Common.{◌≡◌, ℕ, List, [], ◌∷◌, Option, Some, None, Bool, true, false, cond}
use Rattle.std.proofs.Common.{sym, subst}
use Rattle.std.specs.Prelude.{nat_le, unwrap_or}
use Rattle.std.specs.Option.{option_map_or}
use Rattle.modules.specs.LastBegun.{last_begun}
use Rattle.modules.specs.Listed.{BoundNames}
use Rattle.histories.specs.Grammar.{AreInOrder, HistoryPart}
use Rattle.histories.specs.ListingsAt.{DatedListing, before_all, dated_listings, listing_at}
use Rattle.histories.proofs.DatedLemmas.{is_last_listing}
use Rattle.follower.specs.Catalogs.{standing_at}
use Rattle.follower.specs.declared.catalogs.DatedCatalog.{DatedCatalog}
use Rattle.follower.specs.declared.catalogs.Moment.TheVariants.{Stamp}
use Rattle.dated_names.specs.SameNames.{AgreeAlways, AgreeAt, AreOpenedOf, IsOpenedOf, ShowsHistory}

module _ (kernel : Option BoundNames) where
  -- one is a catalog of the other, or there is neither
  abbrev AreBoth : Option DatedListing → Option DatedCatalog → Type 0
  AreBoth None None = Unit {0}
  AreBoth (Some l) (Some d) = IsOpenedOf kernel l.text d.catalog
  AreBoth _ _ = ⊥

  abbrev last_text : ℕ → List DatedListing → Option DatedListing
  last_text time ls = last_begun (λ (l : DatedListing). l.since) time ls

  -- one more of each, which began by the time or did not
  with_first : (begun : Bool) (l : DatedListing) (d : DatedCatalog) (ol : Option DatedListing)
      (od : Option DatedCatalog) → IsOpenedOf kernel l.text d.catalog → AreBoth ol od
      → AreBoth (cond begun (Some (unwrap_or ol l)) ol) (cond begun (Some (unwrap_or od d)) od)
  with_first false l d ol od of both = both
  with_first true l d None None of both = of
  with_first true l d None (Some e) of both = absurd both
  with_first true l d (Some k) None of both = absurd both
  with_first true l d (Some k) (Some e) of both = both

  both_stand : (time : ℕ) (ls : List DatedListing) (ds : List DatedCatalog)
      → AreOpenedOf kernel ls ds → AreBoth (last_text time ls) (standing_at ds (Stamp time))
  both_stand time [] [] of = search
  both_stand time [] (d ∷ ds) of = absurd of
  both_stand time (l ∷ ls) [] of = absurd of
  both_stand time (l ∷ ls) (d ∷ ds) (since, first, more) =
      subst (λ (b : ℕ). AreBoth (last_text time (l ∷ ls)) (cond (nat_le b time)
      (Some (unwrap_or (standing_at ds (Stamp time)) d)) (standing_at ds (Stamp time))))
      (sym since)
      (with_first (nat_le l.since time) l d (last_text time ls) (standing_at ds (Stamp time)) first
      (both_stand time ls ds more))

  agree : (parts : List HistoryPart) (time : ℕ) (ol : Option DatedListing)
      (od : Option DatedCatalog) → listing_at (Some time) parts
      ≡ option_map_or (λ (l : DatedListing). l.text) ol (before_all parts) → AreBoth ol od
      → AgreeAt kernel parts time od
  agree parts time None None is both = is
  agree parts time None (Some d) is both = absurd both
  agree parts time (Some l) None is both = absurd both
  agree parts time (Some l) (Some d) is both =
      subst (λ (t : List ℕ). IsOpenedOf kernel t d.catalog) (sym is) both

  -- the law
  pub same_names : (parts : List HistoryPart) (dated : List DatedCatalog) → AreInOrder parts
      → ShowsHistory kernel parts dated → AgreeAlways kernel parts dated
  same_names parts dated order shown time =
      agree parts time (last_text time (dated_listings [] parts)) (standing_at dated (Stamp time))
      (is_last_listing parts time order)
      (both_stand time (dated_listings [] parts) dated shown)
