use Rattle.command_line.proofs.Words.{◌≡◌, ◌∙◌, ap, List, [], map, Option, Some, None, option_map}
use Rattle.command_line.proofs.Words.{Bor, UnwrapsOrElse, Text, found_of, raw_values-rows}
use Rattle.std.proofs.Common.{unwrap_or}
use Rattle.command_line.proofs.arguments.values_of.Goals as goal

abbrev texts : Bor (List (Bor Text)) → List Text
texts values = map (λ w. w.now) values.now

texts_or_none : (o : Option (Bor (List (Bor Text)))) (r : Bor (List (Bor Text)))
    → UnwrapsOrElse o (λ x. x.now ≡ []) r → texts r ≡ unwrap_or (option_map texts o) []
texts_or_none None r h = ap (λ (l : List (Bor Text)). map (λ w. w.now) l) h
texts_or_none (Some v) r h = ap texts h

pub returns : goal.returns
returns c =
    texts_or_none c.get_raw.result c.unwrap_or_default.result c.unwrap_or_default.ensures
    ∙ ap (λ o. unwrap_or o [])
    (c.get_raw.ensures ∙ raw_values-rows (found_of c.args.found.now) c.args.id.now)
