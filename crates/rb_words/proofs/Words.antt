-- The words that the proofs of this crate use, of whatever crate.
pub use Rattle.std.proofs.Common.{◌≡◌, ◌≢◌, ℕ, suc, zero, ◌<◌, ◌≤◌, List, [], ◌∷◌, length, take}
pub use Rattle.std.proofs.Common.{drop, Some, sym, ◌∙◌, subst, ⊎_elim, eqb, false, ◌++◌, refl, ap}
pub use Rattle.std.proofs.Common.{inl, inr, arith, length-set, ◌+◌, ◌*◌, ◌^◌, true, map, vec_len}
pub use Rattle.std.proofs.Common.{vec_capacity}
pub use Rattle.std.proofs.lemmas.Bool.{ne_eqb, cases_eq, cases_lt}
pub use Rattle.std.specs.List.{AllByRecursion}
pub use Rattle.std.specs.Prelude.{Contains, insert, remove, slice_get, slice_set, ◌==◌, is_some}
pub use Rattle.facts.proofs.Each.{all_at, all_below, all_differ_test, all_get, all_insert}
pub use Rattle.facts.proofs.Each.{all_remove, all_differ, all_left, all_right}
pub use Rattle.facts.proofs.Lists.{parted_at, length-insert, length-remove_at, map-insert}
pub use Rattle.facts.proofs.Lists.{map-remove}
pub use Rattle.facts.proofs.Members.{Contains-rest, Contains-insert, Contains-insert_cases}
pub use Rattle.facts.proofs.Members.{Contains-remove}
pub use Rattle.order_laws.proofs.PlaceLemmas.{with_place, without_place, without_none}
pub use Rattle.order_laws.specs.Orders.{Order, IsLawful, IsInLine}
pub use Rattle.order_laws.specs.Tables.{IsTable, with_item, without, place_for, place_of, has}
pub use Rattle.order_laws.specs.Tables.{meets, without_all}
pub use Rattle.order_laws.specs.declared.items.Item.{Item}
pub use Rattle.rb_trees.proofs.LeadsLemmas.{as_many_rows}
pub use Rattle.rb_trees.proofs.MeetRows.{met_meets, met_any_meets}
pub use Rattle.rb_trees.proofs.SoughtRows.{found_by_word, any_has, word_found, item_found, any_is}
pub use Rattle.rb_trees.proofs.SoughtRows.{found_by_any}
pub use Rattle.rb_trees.specs.Found.{items_of_records, meets_on_the_way, item_with_word}
pub use Rattle.rb_trees.specs.Found.{meets_anywhere}
pub use Rattle.rb_words.specs.Mirrors.{mirror_word, mirror_store, mirror_stores, second_picture}
pub use Rattle.rb_words.specs.Pictures.{Picture, IsPictured, IsPicture}
pub use Rattle.rb_words.specs.Plans.{AreLinks, item_stores, Inserts, LeadsWithItem, Erases}
pub use Rattle.rb_words.specs.Plans.{LeadsByLinks}
pub use Rattle.rb_words.specs.Rows.{AreDistinct}
pub use Rattle.rb_words.specs.TreePictures.{picture_of, LosesWord}
pub use Rattle.word_layout.proofs.StoreLemmas.{at_stored, at_other, same_store, after_append}
pub use Rattle.word_layout.proofs.StoreLemmas.{length_after}
pub use Rattle.word_layout.proofs.WordLemmas.{of_item, unused_item}
pub use Rattle.word_layout.specs.Copies.{copy_number}
pub use Rattle.word_layout.specs.Layouts.{capacity_of}
pub use Rattle.word_layout.specs.Stores.{words_after, words_after_all, IsLinkWord, IsItemWord}
pub use Rattle.word_layout.specs.Stores.{AreLinkStores}
pub use Rattle.word_layout.specs.Words.{Nodes, none, fork, words_for, at, item_at, items, Leads}
pub use Rattle.word_layout.specs.Words.{Holds, root_word, left_word, right_word, a_word, b_word}
pub use Rattle.word_layout.specs.Words.{tag_word, listed, Reaches, InUse}
pub use Rattle.word_layout.specs.declared.stores.Store.{Store}
pub use Rattle.std.proofs.lemmas.Grind.{common_steps}
pub use Rattle.std.proofs.lemmas.Bool.Decides.{nat_tests}
