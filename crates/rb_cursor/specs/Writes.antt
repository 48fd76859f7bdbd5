-- What a write of the link of the nearest node above makes of a slab.
use Rattle.std.specs.Prelude.{ℕ, zero, suc, ◌<◌, List, slice_index_or, Option, Some, None}
use Rattle.slab.specs.Slab.{Slab, get, with_value}
use Rattle.rb_cursor.specs.declared.nodes.Node.{Node}
use Rattle.rb_trees.specs.declared.Side.{Side}
use Rattle.rb_trees.specs.declared.Side.TheVariants.{Left}
use Rattle.rb_cursor.specs.declared.nodes.Step.{Step}
use Rattle.rb_cursor.specs.Sides.{with_link}

-- the key that a link leads to
abbrev pub key_of : ℕ → ℕ
key_of zero = 0
key_of (suc k) = k

abbrev pub with_node_link : Slab Node → ℕ → Side → ℕ → Option Node → Slab Node
with_node_link s key side link None = s
with_node_link s key side link (Some n) = with_value s key (with_link side link n)

-- the slab in which a step leads by this link
abbrev pub with_step_link : Slab Node → Step → ℕ → Slab Node
with_step_link s step link =
    with_node_link s (key_of step.link) step.side link (get s (key_of step.link))

-- what is read for a step that is not there
abbrev pub no_step : Step
no_step = record { link = 0; side = Left }

abbrev pub step_at : List Step → ℕ → Step
step_at steps i = slice_index_or steps i no_step

-- the last of `depth` steps leads to a node
abbrev pub LastLeadsOn : List Step → ℕ → Type 0
LastLeadsOn steps zero = Unit {0}
LastLeadsOn steps (suc depth) = 0 < (step_at steps depth).link

-- the slab in which the last of `depth` steps leads by this link
abbrev pub with_last_link : Slab Node → List Step → ℕ → ℕ → Slab Node
with_last_link s steps zero link = s
with_last_link s steps (suc depth) link = with_step_link s (step_at steps depth) link
