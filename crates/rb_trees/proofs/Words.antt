-- The words that the proofs of this crate use, of whatever crate.
pub use Rattle.std.proofs.Common.{Bool, ◌≡◌, ℕ, zero, suc, true, false, refl, ◌+◌, ◌*◌, ◌≤◌, ◌^◌}
pub use Rattle.std.proofs.Common.{sym, subst, arith, length, ◌<◌, cond, List, [], ◌∷◌, ◌++◌}
pub use Rattle.std.proofs.Common.{length-append, ◌∙◌, ap, inl, inr, append_assoc, append-nil, map}
pub use Rattle.std.proofs.Common.{⊎_elim, Some, ◌≢◌, length-set, Option, None}
pub use Rattle.std.proofs.Math.Bool.{or-false, or-true}
pub use Rattle.std.proofs.lemmas.Bool.{eq-eqb, eqb-true, ne_eqb, ltb-true, ltb-false}
pub use Rattle.std.proofs.lemmas.List.{map-append, length-map}
pub use Rattle.std.proofs.lemmas.List.Elements.{Contains-append_left, Contains-append_right}
pub use Rattle.std.proofs.lemmas.List.Elements.{Contains-append_cases}
pub use Rattle.std.specs.List.{AllByRecursion, list_any}
pub use Rattle.std.specs.Prelude.{not, ◌==◌, Contains, slice_set, ◌||◌, ◌&&◌, max, insert, remove}
pub use Rattle.std.specs.Prelude.{slice_get, ◌⊎◌, nat_lt, is_some}
pub use Rattle.std.specs.declared.cmp.Ordering.{Ordering}
pub use Rattle.std.specs.declared.cmp.Ordering.TheVariants.{Less, Equal, Greater}
pub use Rattle.facts.proofs.Each.{all_append, all_left, all_right, all_weaker, all_at}
pub use Rattle.facts.proofs.Members.{Contains-rest, Contains-cons_cases}
pub use Rattle.order_laws.proofs.FirstWordLemmas.{Lacks, differs_before, has_front, has_back}
pub use Rattle.order_laws.proofs.FirstWordLemmas.{across, all_before, differs}
pub use Rattle.order_laws.proofs.TableLemmas.{Parted, parted}
pub use Rattle.order_laws.specs.Orders.{Order, Precedes, IsLawful, IsInLine}
pub use Rattle.order_laws.specs.Tables.{IsTable, meets, without_all, place_for, place_of, has}
pub use Rattle.order_laws.specs.declared.items.Item.{Item}
pub use Rattle.rb_trees.specs.Erased.{Remainder, whole, lowered, filled_over_black}
pub use Rattle.rb_trees.specs.Erased.{fill_links_over_black, filled_over, filled, fill_links_over}
pub use Rattle.rb_trees.specs.Erased.{fill_links, first_word_at, item_lies, record_found_at, found}
pub use Rattle.rb_trees.specs.Found.{items_of_records, meets_on_the_way, meets_anywhere}
pub use Rattle.rb_trees.specs.Found.{first_item_of, item_with_word}
pub use Rattle.rb_trees.specs.Inserted.{red_violation, mended, mend_links, recoloured, mended_over}
pub use Rattle.rb_trees.specs.Inserted.{mend_links_over}
pub use Rattle.rb_trees.specs.Linked.{Inner, Among, IsSeparate, LeadLinks, With, HasRoom, Lead}
pub use Rattle.rb_trees.specs.Paths.{Above, joined, plugged, past_left, past_right, place_from}
pub use Rattle.rb_trees.specs.Paths.{way_from, way_by, way_at, place_at, leaf_lies, first_way}
pub use Rattle.rb_trees.specs.Paths.{first_place}
pub use Rattle.rb_trees.specs.Replaced.{Sound, Relinks, Fits, Replaced, Nothing, In, Lost, Own}
pub use Rattle.rb_trees.specs.Sides.{sided, opposite, on, set_link, link_word}
pub use Rattle.rb_trees.specs.Trees.{ColouredTree, tip, branch, is_red, blackened, HasBlackHeight}
pub use Rattle.rb_trees.specs.Trees.{HasNoClash, IsRedBlack, shape, IsBalanced, depth, rows}
pub use Rattle.rb_trees.specs.Turns.{link, relink, turned, turn_links, turn_links_over, relink_root}
pub use Rattle.rb_trees.specs.Turns.{set_root, moved}
pub use Rattle.rb_trees.specs.declared.Record.{Record}
pub use Rattle.rb_trees.specs.declared.Side.{Side}
pub use Rattle.rb_trees.specs.declared.Side.TheVariants.{Left, Right}
pub use Rattle.word_layout.proofs.OwnedLinkLemmas.{IsLinkOf, root_no_link, owns_no_root, owns_links}
pub use Rattle.word_layout.proofs.OwnedLinkLemmas.{owns_values, Owns, owns_append, owns_weaker}
pub use Rattle.word_layout.proofs.OwnedLinkLemmas.{link_kept}
pub use Rattle.word_layout.proofs.StoreLemmas.{at_stored, at_other, untouched, after_append}
pub use Rattle.word_layout.proofs.StoreLemmas.{length_after}
pub use Rattle.word_layout.specs.Stores.{words_after_all, IsLinkWord, AreLinkStores}
pub use Rattle.word_layout.specs.Words.{Nodes, none, listed, fork, at, root_word, left_word}
pub use Rattle.word_layout.specs.Words.{right_word, item_at, items, words_for, Leads}
pub use Rattle.word_layout.specs.declared.stores.Store.{Store}
