-- The words that the proofs of this crate use, of whatever crate.
pub use Rattle.std.proofs.Common.{◌≡◌, Result, Ok, Err, subst, sym, ◌∙◌, Bool, List, ℕ, Option}
pub use Rattle.std.proofs.Common.{Some, None, IfOk, ap, false, refl, arith, take, zero, suc, ◌+◌}
pub use Rattle.std.proofs.Common.{◌≤◌, ◌<◌, ◌++◌, length, drop, ⊎_elim, length-drop, eq-eqb, ne_eqb}
pub use Rattle.std.proofs.Common.{append_assoc, ◌-◌, inl}
pub use Rattle.std.specs.Prelude.{IfSome, IsErrAnd, IsUtf8}
pub use Rattle.command_parts.specs.Json.{escaped, text_within}
pub use Rattle.command_parts.specs.JsonTexts.{row_member}
pub use Rattle.texts.proofs.OutputLemmas.{same_text, then}
pub use Rattle.texts.specs.Output.{Says}
