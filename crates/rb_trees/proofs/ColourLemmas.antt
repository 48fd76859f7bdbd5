-- Colours and black heights, by the sides of a node.
use Rattle.rb_trees.proofs.Words.{◌≡◌, ℕ, zero, suc, true, false, refl, Record, Side, Left, Right}
use Rattle.rb_trees.proofs.Words.{ColouredTree, tip, branch, is_red, blackened, HasBlackHeight}
use Rattle.rb_trees.proofs.Words.{HasNoClash, IsRedBlack, sided, Sound, Bool}

-- no red node has a red child, but the top may have one
abbrev pub IsNear : ColouredTree → Type 0
IsNear tip = Unit {0}
IsNear (branch true l x r) = (is_red l ≡ true → is_red r ≡ false) × HasNoClash l × HasNoClash r
IsNear (branch false l x r) = HasNoClash l × HasNoClash r

pub near_of_calm : (t : ColouredTree) → HasNoClash t → IsNear t
near_of_calm tip c = tt
near_of_calm (branch true l x r) c = ((λ e. c.1), c.2, c.3)
near_of_calm (branch false l x r) c = c

pub calm_of_near : (t : ColouredTree) → is_red t ≡ false → IsNear t → HasNoClash t
calm_of_near tip e c = tt
calm_of_near (branch true l x r) e c = absurd (cc)
calm_of_near (branch false l x r) e c = c

pub black_blackened : (t : ColouredTree) → is_red (blackened t) ≡ false
black_blackened tip = refl
black_blackened (branch red l x r) = refl

pub sound_blackened : (t : ColouredTree) (h : ℕ) → is_red t ≡ true → IsNear t → HasBlackHeight t h
    → Sound (blackened t) (suc h)
sound_blackened tip h e near high = absurd (cc)
sound_blackened (branch true l x r) h e near high = record { calm = (near.1, near.2); high = high }
sound_blackened (branch false l x r) h e near high = absurd (cc)

-- a tree with its top made black is red-black
pub blackened_good : (t : ColouredTree) (h : ℕ) → IsNear t → HasBlackHeight t h
    → IsRedBlack (blackened t)
blackened_good tip h near high = record { black = refl; calm = tt; even = (h, high) }
blackened_good (branch true l x r) h near high =
    record { black = refl; calm = (near.1, near.2); even = (suc h, high) }
blackened_good (branch false l x r) h near high =
    record { black = refl; calm = near; even = (h, high) }

-- a node over two sound trees
pub sound_black : (s : Side) (a : ColouredTree) (x : Record) (b : ColouredTree) (h : ℕ) → Sound a h
    → Sound b h → Sound (sided s false a x b) (suc h)
sound_black Left a x b h p q = record { calm = (p.calm, q.calm); high = (p.high, q.high) }
sound_black Right a x b h p q = record { calm = (q.calm, p.calm); high = (q.high, p.high) }

pub sound_red : (s : Side) (a : ColouredTree) (x : Record) (b : ColouredTree) (h : ℕ)
    → is_red a ≡ false → is_red b ≡ false → Sound a h → Sound b h → Sound (sided s true a x b) h
sound_red Left a x b h ra rb p q =
    record { calm = (ra, rb, p.calm, q.calm); high = (p.high, q.high) }
sound_red Right a x b h ra rb p q =
    record { calm = (rb, ra, q.calm, p.calm); high = (q.high, p.high) }

-- both trees of a sound node; and the height of a node is that of the tree on a side, or one more
abbrev pub over : Bool → ℕ → ℕ
over true h = h
over false h = suc h

pub record Halves (red : Bool) (a b : ColouredTree) (h : ℕ) : Type 0 where
  pub height : ℕ
  pub level : over red height ≡ h
  pub near : Sound a height
  pub far : Sound b height
  pub near_black : red ≡ true → is_red a ≡ false
  pub far_black : red ≡ true → is_red b ≡ false

halved : (red : Bool) (a : ColouredTree) (x : Record) (b : ColouredTree) (h : ℕ)
    → Sound (branch red a x b) h → Halves red a b h
halved true a x b h is = record {
  height = h;
  level = refl;
  near = record { calm = is.calm.2; high = is.high.0 };
  far = record { calm = is.calm.3; high = is.high.1 };
  near_black = λ e. is.calm.0;
  far_black = λ e. is.calm.1;
}
halved false a x b zero is = absurd is.high
halved false a x b (suc h) is = record {
  height = h;
  level = refl;
  near = record { calm = is.calm.0; high = is.high.0 };
  far = record { calm = is.calm.1; high = is.high.1 };
  near_black = λ e. absurd (cc);
  far_black = λ e. absurd (cc);
}

pub halves : (s : Side) (red : Bool) (a : ColouredTree) (x : Record) (b : ColouredTree) (h : ℕ)
    → Sound (sided s red a x b) h → Halves red a b h
halves Left red a x b h is = halved red a x b h is
halves Right red a x b h is =
    let v = halved red b x a h is in
    record {
      height = v.height;
      level = v.level;
      near = v.far;
      far = v.near;
      near_black = v.far_black;
      far_black = v.near_black;
    }

pub sound_over : (s : Side) (red : Bool) (a : ColouredTree) (x : Record) (b : ColouredTree) (h : ℕ)
    → (red ≡ true → is_red a ≡ false) → (red ≡ true → is_red b ≡ false) → Sound a h → Sound b h
    → Sound (sided s red a x b) (over red h)
sound_over s true a x b h ra rb p q = sound_red s a x b h (ra refl) (rb refl) p q
sound_over s false a x b h ra rb p q = sound_black s a x b h p q
