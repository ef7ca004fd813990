-- A statement with what a rule of nodes makes of its expressions.
use Rattle.std.specs.Option.{option_map}
use Rattle.nest.specs.Plain.{Guarded}
use Rattle.rewrite.specs.Making.{Making, made, made_parts}

-- its left side keeps its name
abbrev pub with_nodes : Making → Guarded → Guarded
with_nodes m g = record g { guard = option_map (made m) g.guard; left = made_parts m g.left; right = made m g.right }
