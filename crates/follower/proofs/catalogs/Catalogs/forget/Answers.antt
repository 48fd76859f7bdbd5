use Rattle.follower.proofs.Words.{ℕ, Option, Some, None, length, ap, sym, subst, arith, DropsOldest}
use Rattle.follower.proofs.Words.{Forgets, ForgetsOldest}
use Rattle.follower.proofs.CatalogLemmas.{oldest_goes}
use Rattle.follower.proofs.catalogs.Catalogs.forget.Goals as goal

pub returns : goal.returns
returns c = by_oldest c.drop_oldest.result c.drop_oldest.ensures
  where
    by_oldest : (tag : Option ℕ)
        → DropsOldest c.args.self.now.items c.drop_oldest.new.self.items tag
        → Forgets c.args.moment c.args.self.now.items c.drop_oldest.new.self.items tag
    by_oldest None d =
        absurd (omega (arith, c.begun_by.ensures.bound, c.if-begun_by-lt2.false, ap length d.0))
    by_oldest (Some tag) d =
        subst (ForgetsOldest c.args.moment c.args.self.now.items c.drop_oldest.new.self.items)
        (sym d.2)
        (oldest_goes c.args.self.now.items c.drop_oldest.new.self.items c.args.moment
        c.begun_by.result d.0 d.1 c.begun_by.ensures c.if-begun_by-lt2.false)
