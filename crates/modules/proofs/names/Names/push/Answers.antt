use Rattle.modules.proofs.Words.{◌≡◌, ℕ, false, ◌∷◌, [], ◌++◌, length, List, ap, ◌∙◌, Bor, list_any}
use Rattle.modules.proofs.Words.{bytes_eq}
use Rattle.modules.proofs.Lemmas.{btree_map_updates_str}
use Rattle.modules.proofs.Definitions.{names_at}
use Rattle.modules.proofs.LineMarkLemmas.{places_more}
use Rattle.modules.proofs.names.Names.push.Goals as goal

pub invariant_of-self-2 : goal.invariant_of-self-2
invariant_of-self-2 c =
    let inside = c.self.inside in
    let items : List (Bor (List ℕ)) = inside.listed.items in
    let reserved : c.reserve.new.self.items ≡ items = c.in_ok-reserve.ensures.items in
    let pushed : c.push.new.self.items ≡ c.reserve.new.self.items ++ c.args.name ∷ [] =
    rw c.unwrap.ensures at c.push.ensures.items in
    let absent : list_any (bytes_eq c.args.name.now) (names_at items) ≡ false =
    ap (list_any (bytes_eq c.args.name.now)) c.self.view_is ∙ c.requires in
    λ q. places_more items c.push.new.self.items c.args.name q c.len.result _ _ absent
    (c.len.ensures ∙ c.reserve.new.self.ok.0 ∙ ap length reserved) (c.self.invariant q)
    (btree_map_updates_str c.args.name.now inside.places c.insert.new.self _
    c.in_ok-insert.ensures.updates q)
    (pushed ∙ ap (λ (ns : List (Bor (List ℕ))). ns ++ c.args.name ∷ []) reserved)
