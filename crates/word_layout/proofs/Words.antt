-- The words that the proofs of this crate use, of whatever crate.
pub use Rattle.std.proofs.Common.{◌≡◌, ◌≢◌, ℕ, suc, ◌+◌, ◌-◌, ◌<◌, List, [], ◌∷◌, ◌++◌, length}
pub use Rattle.std.proofs.Common.{refl, sym, ◌∙◌, ap, subst, append_assoc, length-append, arith}
pub use Rattle.std.proofs.Common.{inl, inr, get_or-set_other, get_or-set_same, ◌≤◌, get_or, ⊎_elim}
pub use Rattle.std.proofs.Common.{length-set, take, ◌*◌, vec_len, vec_capacity}
pub use Rattle.std.proofs.lemmas.Bool.{cases_eq, cases_lt}
pub use Rattle.std.proofs.lemmas.List.{set_past, length-take-le, take_more, get_or_append_left}
pub use Rattle.std.proofs.lemmas.List.{get_or-append_right, get_or-replicate, length-replicate}
pub use Rattle.std.proofs.lemmas.List.Elements.{All-from_recursion, Contains-append_left}
pub use Rattle.std.proofs.lemmas.List.Elements.{Contains-append_right, Contains-append_cases}
pub use Rattle.std.specs.List.{AllByRecursion}
pub use Rattle.std.specs.Prelude.{slice_set, All, ◌⊎◌, Contains, replicate, IfSome, IfNone}
pub use Rattle.facts.proofs.Each.{all_weaker, all_append}
pub use Rattle.order_laws.specs.declared.items.Item.{Item}
pub use Rattle.word_layout.specs.Copies.{copy_number}
pub use Rattle.word_layout.specs.Layouts.{capacity_of}
pub use Rattle.word_layout.specs.Stores.{words_after_all, words_after, AreLinkStores, IsItemWord}
pub use Rattle.word_layout.specs.Stores.{IsLinkWord}
pub use Rattle.word_layout.specs.Words.{at, root_word, left_word, right_word, Nodes, none, fork}
pub use Rattle.word_layout.specs.Words.{listed, Leads, HoldsTable, a_word, b_word, tag_word}
pub use Rattle.word_layout.specs.Words.{item_at, items, Holds, Reaches, by_root, by_left, by_right}
pub use Rattle.word_layout.specs.Words.{InUse, words_for, words_per_node, IsWordOf}
pub use Rattle.word_layout.specs.declared.stores.Store.{Store}
