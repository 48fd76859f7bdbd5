-- The words that the proofs of this crate use, of whatever crate.
pub use Rattle.std.proofs.Common.{◌≡◌, ℕ, false, List, [], ◌∷◌, ◌++◌, refl, sym, ap, subst, ⊎_elim}
pub use Rattle.std.proofs.Common.{arith, ◌<◌, ◌≤◌, None, Option, true, ◌∙◌, cond, get_or, ◌≢◌, suc}
pub use Rattle.std.proofs.Common.{length, inl, inr, ◌+◌, drop}
pub use Rattle.std.proofs.lemmas.Bool.{ne_eqb, eqb-true, eq-eqb, cases_eq, or_parts}
pub use Rattle.std.specs.List.{AllByRecursion, list_any}
pub use Rattle.std.specs.Prelude.{◌==◌, ◌||◌, Contains, IfSome, not, ◌&&◌, insert, remove, ◌⊎◌, ◌↔◌}
pub use Rattle.std.specs.Prelude.{filter}
pub use Rattle.std.specs.declared.cmp.Ordering.TheVariants.{Equal, Less, Greater}
pub use Rattle.facts.proofs.Each.{all_at, all_right, all_filtered, all_left, all_weaker}
pub use Rattle.facts.proofs.Members.{Contains-cons_cases, Contains-head, Contains-none}
pub use Rattle.facts.proofs.Members.{Contains-one, Contains-rest}
pub use Rattle.order_laws.specs.Orders.{Order, Precedes, IsLawful, half_open, IsInLine}
pub use Rattle.order_laws.specs.Tables.{IsTable, has, IsLook, look, without_all, meets, with_item}
pub use Rattle.order_laws.specs.Tables.{without, place_for, place_of}
pub use Rattle.order_laws.specs.declared.items.Item.{Item}
