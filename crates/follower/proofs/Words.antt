-- The words that the proofs of this crate use, of whatever crate.
pub use Rattle.std.proofs.Common.{◌≡◌, ℕ, suc, zero, ◌-◌, ◌<◌, ◌≤◌, nat_le, Bool, true, false, cond}
pub use Rattle.std.proofs.Common.{List, [], ◌∷◌, ◌++◌, get_or, Option, Some, None, IfSome, refl}
pub use Rattle.std.proofs.Common.{sym, subst, ◌∙◌, arith, ⊎_elim, ◌+◌, ◌*◌, length, take, ap, rules}
pub use Rattle.std.proofs.Common.{All}
pub use Rattle.std.proofs.lemmas.List.Sorted.{Contains-permutation, IsPermutation-sym}
pub use Rattle.std.proofs.lemmas.List.Sorted.{IsPartitionPoint-from_clause, IsPartitionedBy-leb}
pub use Rattle.follower.specs.Catalogs.{AreInOrder, EachStands, ForgetsOldest, at_number, number_of}
pub use Rattle.follower.specs.Catalogs.{standing_at, start_by, DropsOldest, Forgets}
pub use Rattle.follower.specs.Following.{BeginsMoment, NotesGone, PassesMoment, time_as}
pub use Rattle.follower.specs.Following.{BeginsToShow, IsBegun, IsFollowed, IsShownAt}
pub use Rattle.follower.specs.Following.{generation_of, no_change, table_at, Followed}
pub use Rattle.follower.specs.Following.{RefusesToShow, dated_as}
pub use Rattle.latch_table.specs.Writers.{Begins}
pub use Rattle.order_laws.specs.Orders.{half_open}
pub use Rattle.follower.specs.declared.catalogs.DatedCatalog.{DatedCatalog}
pub use Rattle.follower.specs.declared.catalogs.Moment.{Moment}
pub use Rattle.follower.specs.declared.noted.DatedCode.{DatedCode}
pub use Rattle.follower.specs.declared.noted.NotedTime.{NotedTime}
pub use Rattle.follower.specs.Noted.{stays_at}
pub use Rattle.std.specs.Prelude.{position, slice_set}
pub use Rattle.modules.specs.Catalogs.{IsSoundCatalog}
pub use Rattle.modules.specs.Entries.{CatalogEntries}
pub use Rattle.modules.specs.Index.{IsSplitBy}
pub use Rattle.modules.specs.RegionIndexes.{IsIndexOf}
