-- The words that the proofs of this crate use, of whatever crate.
pub use Rattle.std.proofs.Common.{◌≡◌, ℕ, suc, ◌+◌, ◌-◌, ◌^◌, ◌<◌, ◌≤◌, Bool, true, false, List, []}
pub use Rattle.std.proofs.Common.{◌∷◌, length, if◌then◌else◌, Some, None, inl, inr, refl, sym, ap}
pub use Rattle.std.proofs.Common.{subst, ◌∙◌, arith, ◌++◌, length-append, append_assoc, append-nil}
pub use Rattle.std.proofs.Common.{Option, is_some, count_by, set, ◌≢◌, zero, get_or, cond}
pub use Rattle.std.proofs.Common.{length-set, option_copied, vec_capacity}
pub use Rattle.std.proofs.lemmas.Bool.{cases_eq, le-ltb, lt-ltb}
pub use Rattle.std.proofs.lemmas.List.{get_or-set_same, set-get_or, get_or-set_other}
pub use Rattle.std.specs.Prelude.{◌==◌, nat_lt, not}
pub use Rattle.std.specs.declared.cmp.Ordering.{Ordering}
pub use Rattle.std.specs.declared.cmp.Ordering.TheVariants.{Less, Equal, Greater}
pub use Rattle.facts.proofs.Options.{OnErr-from, IsSome-from_ne}
pub use Rattle.facts.proofs.Orderings.{Equal-from_is_eq}
pub use Rattle.order_laws.specs.Orders.{Order, IsLawful}
pub use Rattle.rb_cursor.specs.Changes.{most_on_climb, Climbs, PutsIn, TakesFirst, TakesTop}
pub use Rattle.rb_cursor.specs.Changes.{AddsLinks}
pub use Rattle.rb_cursor.specs.Closing.{closed_zipper, closed_to, risen, all_closed, risen_from}
pub use Rattle.rb_cursor.specs.Keyed.{Keyed, nil, keyed, Level, link_of, link_to, plain, plain_path}
pub use Rattle.rb_cursor.specs.Keyed.{size, at_key, uses, path_uses, list_uses, node_with, node_of}
pub use Rattle.rb_cursor.specs.Keyed.{IsLinked, IsChain, plain_level, sided_node, record_of, IsPath}
pub use Rattle.rb_cursor.specs.Keyed.{tree_from, path_size, tree_below}
pub use Rattle.rb_cursor.specs.Opening.{weight, IsNearest, OpensSide}
pub use Rattle.rb_cursor.specs.Places.{IsPlace, AreFields, AreSteps, IsCursor, path_from}
pub use Rattle.rb_cursor.specs.Places.{above_with, node_or, above_at}
pub use Rattle.rb_cursor.specs.Readings.{IsForked}
pub use Rattle.rb_cursor.specs.Sides.{child_at, side_by, with_link}
pub use Rattle.rb_cursor.specs.Tops.{HasOneSubtree, only_subtree, is_fork, row_of, with_row}
pub use Rattle.rb_cursor.specs.Tops.{planted, top_taken}
pub use Rattle.rb_cursor.specs.Writes.{with_last_link, step_at, no_step, with_node_link}
pub use Rattle.rb_cursor.specs.Writes.{with_step_link, LastLeadsOn}
pub use Rattle.rb_cursor.specs.Zippers.{Zipper, holding, altered}
pub use Rattle.rb_cursor.specs.declared.cursors.Cursor.TheInside.{Inside}
pub use Rattle.rb_cursor.specs.declared.nodes.Nearest.{Nearest}
pub use Rattle.rb_cursor.specs.declared.nodes.Node.{Node}
pub use Rattle.rb_cursor.specs.declared.nodes.Step.{Step}
pub use Rattle.rb_trees.proofs.FillLemmas.{Filling, filling, filled_sided, fill_links_sided}
pub use Rattle.rb_trees.proofs.GrowLemmas.{at_side, kept_up, kept_still, lost_kept, kept_lost}
pub use Rattle.rb_trees.proofs.GrowLemmas.{lost_filled, Grown, grown_leaf, grown_red, mended_calm}
pub use Rattle.rb_trees.proofs.GrowLemmas.{grown_black, grown_kept, grown_good, kept_good}
pub use Rattle.rb_trees.proofs.GrowLemmas.{lost_good}
pub use Rattle.rb_trees.proofs.PathLemmas.{place_leaf, short_first, short_to, plugged_to}
pub use Rattle.rb_trees.proofs.ReplaceLemmas.{replaced_lead, around}
pub use Rattle.rb_trees.proofs.SideLemmas.{link_sided, red_sided}
pub use Rattle.rb_trees.proofs.TurnLemmas.{moved_one, not_moved, relink_moved, rows_blackened}
pub use Rattle.rb_trees.proofs.TurnLemmas.{root_moved}
pub use Rattle.rb_trees.specs.Erased.{filled, fill_links, lowered, record_found_at, found}
pub use Rattle.rb_trees.specs.Erased.{first_word_at}
pub use Rattle.rb_trees.specs.Found.{items_of_records, meets_on_the_way}
pub use Rattle.rb_trees.specs.Linked.{Lead}
pub use Rattle.rb_trees.specs.Paths.{Above, joined, plugged, way_by, past_left, past_right}
pub use Rattle.rb_trees.specs.Paths.{place_at, place_from, way_at, leaf_lies, apart_lies}
pub use Rattle.rb_trees.specs.Paths.{first_place, first_way}
pub use Rattle.rb_trees.specs.Replaced.{Lost, Replaced, Nothing, Sound}
pub use Rattle.rb_trees.specs.Sides.{sided, set_link, opposite}
pub use Rattle.rb_trees.specs.Trees.{ColouredTree, tip, branch, shape, is_red, blackened, rows}
pub use Rattle.rb_trees.specs.Trees.{HasNoClash, IsRedBlack, depth, coloured}
pub use Rattle.rb_trees.specs.Turns.{link, relink, moved, relink_root, turned}
pub use Rattle.rb_trees.specs.declared.Record.{Record}
pub use Rattle.rb_trees.specs.declared.Side.{Side}
pub use Rattle.rb_trees.specs.declared.Side.TheVariants.{Left, Right}
pub use Rattle.slab.proofs.SlabLemmas.{Updates-with_value, ContainsKey-within}
pub use Rattle.slab.specs.Slab.{Slab, get, slab_len, with_value, Updates, ContainsKey}
pub use Rattle.word_layout.specs.Copies.{copy_number}
pub use Rattle.word_layout.specs.declared.stores.Store.{Store}
pub use Rattle.std.proofs.lemmas.Bool.Decides.{nat_tests}
pub use Rattle.std.proofs.lemmas.Grind.{common_steps}
