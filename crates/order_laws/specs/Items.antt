-- An item as the tuple of its fields: what a model that has items in its value needs.
use Rattle.std.specs.Prelude.{ℕ, refl}
use Rattle.std.specs.Coded.{Coded, code_by, coded×, coded_ℕ}
use Rattle.order_laws.specs.declared.items.Item.{Item}

abbrev pub item_code : Coded Item
item_code =
    code_by (ℕ × (ℕ × ℕ)) (coded× coded_ℕ (coded× coded_ℕ coded_ℕ)) (λ i. (i.a, (i.b, i.tag)))
    (λ p. record { a = p.0; b = p.1.0; tag = p.1.1 }) (λ _. refl)
