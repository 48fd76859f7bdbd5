-- The words that the proofs of this crate use, of whatever crate.
pub use Rattle.std.proofs.Common.{◌≡◌, ℕ, ◌+◌, ◌<◌, true, false, cond, List, [], ◌∷◌, ◌++◌, length}
pub use Rattle.std.proofs.Common.{Some, None, refl, sym, ◌∙◌, ap, subst, arith, drop}
pub use Rattle.std.specs.Prelude.{Bool, ◌||◌, nat_lt, Option, IfOk}
pub use Rattle.order_laws.specs.Tables.{with_item, without, without_all, meets}
pub use Rattle.order_laws.specs.declared.items.Item.{Item}
pub use Rattle.table_updates.specs.Updates.{Test, after, first_that_holds, tests_of, refusal_for}
pub use Rattle.table_updates.specs.Updates.{some_invalid, some_missing, some_twice, some_overlap}
pub use Rattle.table_updates.specs.Updates.{some_meet, with_items, failed_test}
pub use Rattle.table_updates.specs.declared.updates.Update.TheVariants.{Insert, Erase, Batch}
pub use Rattle.word_layout.specs.Layouts.{capacity_of, limit_of}
