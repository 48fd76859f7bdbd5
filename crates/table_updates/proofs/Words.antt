-- The words that the proofs of this crate use, of whatever crate.
pub use Rattle.std.proofs.Common.{◌≡◌, ◌+◌, true, false, List, [], ◌∷◌, length, ◌∙◌, arith, ◌++◌}
pub use Rattle.std.proofs.Common.{◌<◌, ◌≤◌, Bool, None, ap, flat_map, get_or, inl, inr}
pub use Rattle.std.proofs.Common.{length-append, refl, subst, sym, ℕ, ⊎_elim}
pub use Rattle.std.proofs.lemmas.Bool.{not-false, or_parts, lt-ltb}
pub use Rattle.std.specs.Prelude.{not, ◌==◌, ◌||◌, ◌⊎◌, Contains, nat_lt}
pub use Rattle.order_laws.proofs.MeetLemmas.{not_meeting, none_meets}
pub use Rattle.order_laws.specs.Orders.{Order, IsLawful, half_open}
pub use Rattle.order_laws.specs.Tables.{IsTable, with_item, meets, without_all}
pub use Rattle.order_laws.specs.declared.items.Item.{Item}
pub use Rattle.table_updates.specs.Updates.{with_items, some_invalid, some_overlap, some_meet}
pub use Rattle.table_updates.specs.Updates.{replay, after, erased, first_that_holds, inserted}
pub use Rattle.table_updates.specs.Updates.{refusal_for}
