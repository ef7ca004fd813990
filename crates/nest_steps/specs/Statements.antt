-- Statements that a rule of rewriting has been put through, and the cells of scalars.
use Rattle.std.specs.Option.{option_map}
use Rattle.std.specs.Prelude.{ℕ, List, []}
use Rattle.meaning.specs.Store.{Cell}
use Rattle.nest.specs.Plain.{Guarded}
use Rattle.rewrite.specs.Making.{Making, made, made_left}

-- guard, left side and right side, each put through the rule
abbrev pub with_making : Making → Guarded → Guarded
with_making m g = record g { guard = option_map (made m) g.guard; left = made_left m g.left; right = made m g.right }

abbrev pub cell_of : List ℕ → Cell
cell_of x = record { name = x; subscripts = [] }
