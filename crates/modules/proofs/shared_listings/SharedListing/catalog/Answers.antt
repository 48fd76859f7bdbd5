use Rattle.modules.proofs.Words.{◌≡◌, ℕ, List, sym, ap, ◌∙◌, subst}
use Rattle.std.proofs.lemmas.Result.{IfOk-weaker}
use Rattle.modules.proofs.Definitions.{accepted_with, AreSoundModules}
use Rattle.modules.proofs.Definitions.{IsFromSymbols}
use Rattle.modules.proofs.AloneLemmas.{sound_alone}
use Rattle.modules.specs.ListingParts.{ListingParts}
use Rattle.modules.proofs.shared_listings.SharedListing.catalog.Goals as goal

pub of-requires : goal.of-requires
of-requires c =
    let whole = c.self.invariant in
    let sound = sound_alone whole.names whole.listed
    (accepted_with c.args.self.now.kernel c.in_ok-modules.modules.items)
    (c.in_ok-modules.ensures.found whole.names whole.listed (sym c.self.view_is ∙ whole.parts)) in
    sound.distinct

-- the modules with the listing's kernel
placed_is : (c : goal.In_ok-placed) → c.in_ok-placed.placed
    ≡ accepted_with c.args.self.now.kernel c.in_ok-modules.modules.items
placed_is c = c.in_ok-placed.ensures
    ∙ ap (λ (k : List (ℕ × ℕ)). accepted_with k c.in_ok-modules.modules.items)
    (c.in_ok-kernel.ensures.items ∙ c.deref.ensures.value
    ∙ ap (λ (q : ListingParts). q.kernel) c.self.view_is)

pub catalog_with-requires-clause-sound : goal.catalog_with-requires-clause-sound
catalog_with-requires-clause-sound c =
    let whole = c.self.invariant in
    subst AreSoundModules (sym (placed_is c)) (sound_alone whole.names whole.listed
    (accepted_with c.args.self.now.kernel c.in_ok-modules.modules.items)
    (c.in_ok-modules.ensures.found whole.names whole.listed (sym c.self.view_is ∙ whole.parts)))

pub returns : goal.returns
returns c = λ names lines is.
    IfOk-weaker c.catalog_with.result _ _ (λ r both. (
      c.in_ok-placed.placed,
      subst (IsFromSymbols names lines) (sym (c.in_ok-placed.ensures
          ∙ ap (λ (k : List (ℕ × ℕ)). accepted_with k c.in_ok-modules.modules.items)
          (c.in_ok-kernel.ensures.items ∙ c.deref.ensures.value
          ∙ ap (λ (q : ListingParts). q.kernel) c.self.view_is)))
          (c.in_ok-modules.ensures.found names lines is),
      both.0,
      both.1,
    ))
    (c.catalog_with.ensures names lines is)
