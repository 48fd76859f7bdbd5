use Rattle.follower.proofs.Words.{rules, ℕ, ◌∙◌, ◌<◌, ◌++◌, ◌∷◌, [], All, ap, sym, subst}
use Rattle.follower.proofs.Words.{CatalogEntries, IsIndexOf, DatedCatalog, IsBegun}
use Rattle.follower.proofs.follower.begin_to_show.Goals as goal

pub keep_reserved-requires-clause-later : goal.keep_reserved-requires-clause-later
keep_reserved-requires-clause-later c =
    subst (λ ds. All (λ (d : DatedCatalog). d.previous < c.in_ok-previous.previous) ds)
    (sym c.in_ok-reserve_one.ensures.same)
    (subst (λ n. All (λ (d : DatedCatalog). d.previous < n) c.args.catalogs.now.items)
    (sym c.in_ok-previous.ensures.begun.before) c.requires.followed.stands.reached)

pub returns-clause-begun : goal.returns-clause-begun
returns-clause-begun c =
    let begun = c.in_ok-previous.ensures.begun in
    let kept_as : ℕ → CatalogEntries → DatedCatalog =
    λ n k. record { previous = n; since = c.args.since; tag = c.args.tag; catalog = k } in
    record {
      items = c.items.result.now;
      indexed = subst (λ (k : CatalogEntries). IsIndexOf k c.items.result.now)
          (c.indexed.ensures ∙ c.in_ok-catalog.ensures) c.items.ensures;
      begun = subst (IsBegun c.args.writer.now c.items.result.now c.begin_replacing.new.writer)
          begun.before begun;
      since = search rules;
      kept = c.keep_reserved.ensures
          ∙ ap (λ ds. ds ++ kept_as c.in_ok-previous.previous c.in_ok-catalog.catalog ∷ [])
          c.in_ok-reserve_one.ensures.same
          ∙ ap (λ k. c.args.catalogs.now.items ++ kept_as c.in_ok-previous.previous k ∷ [])
          c.in_ok-catalog.ensures
          ∙ ap (λ n. c.args.catalogs.now.items ++ kept_as n c.args.catalog.now ∷ []) begun.before;
    }
